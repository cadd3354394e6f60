use Rattle.std.proofs.Common.{sym}
use Rattle.peer_rows.proofs.Widths.{length-cells_of}
use Rattle.peer_rows.proofs.few.count.Goals as goal

pub returns : goal.returns
returns c = sym (length-cells_of c.args.len c.args.kinds c.args.words.now)
