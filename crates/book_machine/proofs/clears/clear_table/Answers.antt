use Rattle.std.proofs.Common.{ap}
use Rattle.book_rows.specs.Store.{InForce}
use Rattle.book_machine.proofs.Clearing.{table_cleared}
use Rattle.book_machine.proofs.clears.clear_table.Goals as goal

pub returns-clause-led : goal.returns-clause-led
returns-clause-led c = λ tables led.
    table_cleared tables c.args.ranks.now c.args.store.now.rows c.clear_table.new.self.rows
    c.args.t c.args.table c.args.leaders.now c.drop_table_bounds.new.leaders led
    c.drop_table_bounds.ensures
    (ap (λ (s : InForce). s.rows) c.clear_table.ensures)
