use Rattle.peer_rows.proofs.InTime.{least_more}
use Rattle.peer_rows.proofs.of_key.+least_end.Goals as goal

pub returns-in-Some-clause-least : goal.returns-in-Some-clause-least
returns-in-Some-clause-least t c = rw (c.sooner.ensures, c.in-Some.ensures.steps)
    (least_more (c.in-Some.field-0-0, c.in-Some.row.now) c.next.new.self c.end.result
    c.least_end.result c.end.ensures c.least_end.ensures.least)
