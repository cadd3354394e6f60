use Rattle.fleet_core.proofs.Steps.{nothing_waits}
use Rattle.replay.proofs.Stepped.{stepped}
use Rattle.replay.proofs.doing.do_step.Goals as goal

pub returns : goal.returns
returns c = λ config opening past settled.
    let h = settled.stands in
    stepped c.step-answer.result c.args.fleet.now c.step-answer.new.self config opening past
    c.args.step.now c.args.out.now.items c.append_answer.new.out.items
    c.append_shown.new.out.items c.in_ok-ending.ending
    (record {
      stands = c.step-answer.ensures.stands config opening past h;
      no_conn = c.step-answer.ensures.no_conn config opening past h;
      spent = c.step-answer.ensures.spent config opening past h;
      sent = c.step-answer.ensures.sent config opening past h;
      ended = c.step-answer.ensures.ended config opening past h;
      own = c.step-answer.ensures.own config opening past h;
      refused = c.step-answer.ensures.refused config opening past h;
      handed = c.step-answer.ensures.handed config opening past h;
    })
    c.in_ok-ending.ensures.kept settled
    (nothing_waits c.step-answer.new.self.waiting c.waiting.result c.waiting.ensures
    c.if-waiting-gt0.false)
    c.in_ok-ending.ensures.text c.in_ok-ending.ensures.ended
    (λ then now. c.in_ok-append_shown.ensures config opening then now)
