use Rattle.std.proofs.Common.{refl}
use Rattle.expiry_wheel.proofs.Marked.{zeros_unmarked}
use Rattle.expiry_wheel.proofs.marks.Marks.none.Goals as goal

pub returns : goal.returns
returns c = zeros_unmarked _ refl
