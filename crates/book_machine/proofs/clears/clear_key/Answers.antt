use Rattle.std.proofs.Common.{ap}
use Rattle.book_rows.specs.Store.{InForce}
use Rattle.book_machine.proofs.Leading.{dropped_cleared}
use Rattle.book_machine.proofs.clears.clear_key.Goals as goal

pub returns-clause-led : goal.returns-clause-led
returns-clause-led c = λ tables led.
    dropped_cleared tables c.args.ranks.now c.args.store.now.rows c.clear_key.new.self.rows c.args.t
    c.args.table c.args.key.now c.args.leaders.now c.drop_bounds.new.leaders led
    c.drop_bounds.ensures
    (ap (λ (s : InForce). s.rows) c.clear_key.ensures)
