use Rattle.std.proofs.Common.{◌∙◌, sym}
use Rattle.book_machine.proofs.Leading.{dropped_gone}
use Rattle.book_machine.proofs.leaders.drop_gone.Goals as goal

pub returns-then-live_rows-eq0-clause-led : goal.returns-then-live_rows-eq0-clause-led
returns-then-live_rows-eq0-clause-led c = λ tables led.
    dropped_gone tables c.args.ranks.now c.args.rows.now.rows c.args.t c.args.table c.args.key.now
    c.args.leaders.now c.drop_bounds.new.leaders led c.drop_bounds.ensures
    (sym c.live_rows.ensures ∙ c.if-live_rows-eq0.true)
