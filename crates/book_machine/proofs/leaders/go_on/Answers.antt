use Rattle.std.proofs.Common.{ap}
use Rattle.book_rows.specs.Store.{InForce}
use Rattle.book_machine.proofs.Leading.{later_led, led_by}
use Rattle.book_machine.proofs.leaders.go_on.Goals as goal

pub returns-clause-led : goal.returns-clause-led
returns-clause-led c =
    led_by c.args.config.now.tables c.args.config.now.ranks c.as_slice.result.now
    c.end_rows-gone.new.self.rows c.end_rows-gone.new.self.rows c.args.later c.args.later
    c.args.leaders.now c.drop_ended.new.leaders c.as_slice.ensures c.drop_ended.ensures
    (later_led c.args.config.now.tables c.args.config.now.ranks c.args.rows.now.rows
    c.end_rows-gone.new.self.rows c.args.now c.args.later c.args.leaders.now c.requires.up
    (ap (λ (s : InForce). s.rows) c.end_rows-gone.ensures) c.requires.led)
