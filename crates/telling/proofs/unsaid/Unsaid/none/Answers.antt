use Rattle.std.proofs.Common.{refl}
use Rattle.telling.proofs.Steps.{said_none}
use Rattle.telling.proofs.unsaid.Unsaid.none.Goals as goal

pub returns : goal.returns
returns c = λ pushed.
    rw (c.of.ensures, c.new.ensures.items)
    (said_none _ (record { defined = refl; told = tt }) pushed)
