use Rattle.std.proofs.Common.{List, [], sym, subst}
use Rattle.set_changes.specs.Numbered.{AreChangesOf, Logged}
use Rattle.set_changes.proofs.Known.{known_none}
use Rattle.set_changes.proofs.changes.Changes.new.Goals as goal

pub returns : goal.returns
returns c sets =
    subst (λ (logs : List Logged).
    AreChangesOf (record { count = 0; start = 0; logs = logs }) sets [])
    (sym c.new.ensures.items) (known_none sets)
