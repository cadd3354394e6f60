use Rattle.std.proofs.Common.{refl, inr}
use Rattle.program.proofs.preparing.prepare.Goals as goal

-- an allocation or a write failed
pub returns-in-Err : goal.returns-in-Err
returns-in-Err g c = inr (refl, c.in-Err.ensures.cut)
