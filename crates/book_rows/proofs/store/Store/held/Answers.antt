use Rattle.std.proofs.Common.{subst}
use Rattle.fleet_model.specs.Keys.{AreInOrder}
use Rattle.book_rows.specs.Store.{InForce}
use Rattle.book_rows.proofs.Changing.{ordered_shown}
use Rattle.book_rows.proofs.store.Store.held.Goals as goal

pub returns-clause-ordered : goal.returns-clause-ordered
returns-clause-ordered c = subst (λ (s : InForce). AreInOrder s.rows) c.self.view_is
    (ordered_shown c.self.inside.rows.entries c.self.invariant.ordered)
