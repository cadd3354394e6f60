use Rattle.std.proofs.Common.{◌≡◌, true, false, sym, ap, subst, ◌∙◌, Ok}
use Rattle.fleet_core.specs.Answers.{Answers}
use Rattle.fleet_core.specs.Possible.{does_fit}
use Rattle.fleet_core.proofs.Running.{Tells, ends_by, passed_over, tells, unfit_ends, went_on}
use Rattle.fleet_core.proofs.Steps.{fits_now, nothing_waits}
use Rattle.fleet_core.proofs.runs.advance.Goals as goal

pub returns-in-Ok-false : goal.returns-in-Ok-false
returns-in-Ok-false c = λ config opening past h none sent.
    let unfit : does_fit c.config.result.now c.args.step.now ≡ false = sym c.in-Ok-false.ensures
    ∙ c.in-Ok-false.field-0-test in
    unfit_ends config opening past c.args.step.now
    (sym (fits_now c.args.fleet.now config opening past c.args.step.now h)
    ∙ rw (c.config.ensures.value, c.book.ensures) at unfit)

pub returns-in-Err-run_answer : goal.returns-in-Err-run_answer
returns-in-Err-run_answer c = λ config opening past h none sent.
    let fit : does_fit c.config.result.now c.args.step.now ≡ true = sym c.in-Ok-true.ensures
    ∙ c.in-Ok-true.field-0-test in
    let all : Answers c.step.result c.args.fleet.now c.step.new.self config opening past
    c.args.step.now = record {
      stands = c.step.ensures.stands config opening past h;
      no_conn = c.step.ensures.no_conn config opening past h;
      spent = c.step.ensures.spent config opening past h;
      sent = c.step.ensures.sent config opening past h;
      ended = c.step.ensures.ended config opening past h;
      own = c.step.ensures.own config opening past h;
      refused = c.step.ensures.refused config opening past h;
      handed = c.step.ensures.handed config opening past h;
    } in
    ends_by c.in-Err-run_answer.fault c.args.fleet.now c.step.new.self c.args.sent.now config
    opening past c.args.step.now
    (sym (fits_now c.args.fleet.now config opening past c.args.step.now h)
    ∙ rw (c.config.ensures.value, c.book.ensures) at fit)
    (subst (λ r. Tells r c.args.fleet.now c.step.new.self config opening past c.args.step.now)
    (sym c.in-Err-run_answer.ensures)
    (tells c.step.result c.args.fleet.now c.step.new.self config opening past c.args.step.now all))

pub returns-in-Ok-None : goal.returns-in-Ok-None
returns-in-Ok-None c = λ config opening past h none sent.
    let fit : does_fit c.config.result.now c.args.step.now ≡ true = sym c.in-Ok-true.ensures
    ∙ c.in-Ok-true.field-0-test in
    let all : Answers c.step.result c.args.fleet.now c.step.new.self config opening past
    c.args.step.now = record {
      stands = c.step.ensures.stands config opening past h;
      no_conn = c.step.ensures.no_conn config opening past h;
      spent = c.step.ensures.spent config opening past h;
      sent = c.step.ensures.sent config opening past h;
      ended = c.step.ensures.ended config opening past h;
      own = c.step.ensures.own config opening past h;
      refused = c.step.ensures.refused config opening past h;
      handed = c.step.ensures.handed config opening past h;
    } in
    passed_over c.args.fleet.now c.step.new.self c.args.sent.now config opening past
    c.args.step.now h none sent
    (sym (fits_now c.args.fleet.now config opening past c.args.step.now h)
    ∙ rw (c.config.ensures.value, c.book.ensures) at fit)
    (subst (λ r. Tells r c.args.fleet.now c.step.new.self config opening past c.args.step.now)
    (sym c.in-Ok-None.ensures ∙ ap (λ o. Ok o) c.in-Ok-None.field-0-is)
    (tells c.step.result c.args.fleet.now c.step.new.self config opening past c.args.step.now all))

pub returns-in-Ok : goal.returns-in-Ok
returns-in-Ok c = λ config opening past h none sent.
    let fit : does_fit c.config.result.now c.args.step.now ≡ true = sym c.in-Ok-true.ensures
    ∙ c.in-Ok-true.field-0-test in
    let all : Answers c.step.result c.args.fleet.now c.step.new.self config opening past
    c.args.step.now = record {
      stands = c.step.ensures.stands config opening past h;
      no_conn = c.step.ensures.no_conn config opening past h;
      spent = c.step.ensures.spent config opening past h;
      sent = c.step.ensures.sent config opening past h;
      ended = c.step.ensures.ended config opening past h;
      own = c.step.ensures.own config opening past h;
      refused = c.step.ensures.refused config opening past h;
      handed = c.step.ensures.handed config opening past h;
    } in
    went_on c.args.fleet.now c.step.new.self c.args.sent.now c.push.new.self c.in-Ok-Some.replies
    config opening past c.args.step.now sent
    (sym (fits_now c.args.fleet.now config opening past c.args.step.now h)
    ∙ rw (c.config.ensures.value, c.book.ensures) at fit)
    (subst (λ r. Tells r c.args.fleet.now c.step.new.self config opening past c.args.step.now)
    (sym c.in-Ok-Some.ensures ∙ ap (λ o. Ok o) c.in-Ok-Some.field-0-is)
    (tells c.step.result c.args.fleet.now c.step.new.self config opening past c.args.step.now all))
    (nothing_waits c.step.new.self.waiting c.waiting.result c.waiting.ensures
    c.if-waiting-gt0.false)
    c.in-Ok.ensures.ok
