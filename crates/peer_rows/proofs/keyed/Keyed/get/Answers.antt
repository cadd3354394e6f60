use Rattle.std.proofs.Common.{◌∙◌, sym}
use Rattle.place_index.proofs.Ordered.{sorted-in_order}
use Rattle.peer_rows.proofs.Shown.{none-shown, value-shown}
use Rattle.peer_rows.proofs.keyed.Keyed.get.Goals as goal

pub returns-in_err-at-clause-value : goal.returns-in_err-at-clause-value
returns-in_err-at-clause-value c = rw (c.from_residual.ensures, ← c.self.view_is)
    (sym (none-shown c.self.inside.index.places c.args.key.now c.in_err-at.ensures.none))

pub returns-in_err-at-clause-ordered : goal.returns-in_err-at-clause-ordered
returns-in_err-at-clause-ordered c =
    rw (← c.self.view_is) (sorted-in_order c.self.inside.index.places)

pub returns-clause-value : goal.returns-clause-value
returns-clause-value c = rw (← c.self.view_is) (c.value.ensures
    ∙ sym (value-shown c.self.inside.index.places c.args.key.now c.in_ok-at.ensures.distinct
    c.in_ok-at.at c.in_ok-at.ensures.some))

pub returns-clause-ordered : goal.returns-clause-ordered
returns-clause-ordered c = rw (← c.self.view_is) (sorted-in_order c.self.inside.index.places)
