use Rattle.book_machine.proofs.Leading.{led_by}
use Rattle.book_machine.proofs.leaders.put_ranked.Goals as goal

pub returns-then-is_err-clause-led : goal.returns-then-is_err-clause-led
returns-then-is_err-clause-led c =
    led_by c.args.config.now.tables c.args.config.now.ranks c.as_slice-ranks.result.now
    c.lead_and_put-put.new.rows.rows c.lead_and_put-put.new.rows.rows c.args.t c.args.t
    c.lead_and_put-put.new.leaders c.drop_gone.new.leaders
    c.as_slice-ranks.ensures c.drop_gone.ensures.led c.lead_and_put-put.ensures.led
