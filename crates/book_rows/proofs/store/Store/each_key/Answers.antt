use Rattle.std.proofs.Common.{[], subst, arith}
use Rattle.book_rows.specs.Store.{InForce, IsEachKeyOf}
use Rattle.book_rows.proofs.KeysMeeting.{each_shown, no_keys}
use Rattle.book_rows.proofs.store.Store.each_key.Goals as goal

pub returns-then-table-self : goal.returns-then-table-self
returns-then-table-self c =
    subst (λ (s : InForce). IsEachKeyOf s.rows c.args.table c.each_key.result) c.self.view_is
    (each_shown c.args.table c.self.inside.rows c.each_key.result c.each_key.ensures.value)

pub returns-else-table-self : goal.returns-else-table-self
returns-else-table-self c =
    subst (λ (s : InForce). IsEachKeyOf s.rows c.args.table []) c.self.view_is
    (no_keys c.self.inside.size.peers c.self.inside.size.tables c.args.table
    c.self.inside.rows.entries (omega arith) c.self.invariant.inside)
