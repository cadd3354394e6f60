use Rattle.std.proofs.Common.{◌≡◌, [], ◌∷◌, ◌+◌, drop, sym, refl, ◌∙◌, drop_of_length-le}
use Rattle.std.proofs.lemmas.Result.{err_from_is_err_and}
use Rattle.fleet_core.specs.Runs.{done, then_done}
use Rattle.fleet_core.proofs.Running.{all_done, behind_opening, fault_is, left_then, next_left}
use Rattle.fleet_core.proofs.Running.{no_fault_then, none_left, none_sent, opened_late}
use Rattle.fleet_model.proofs.Checked.{front_none}
use Rattle.fleet_core.proofs.runs.run.Goals as goal

pub loop-step-init : goal.loop-step-init
loop-step-init c =
    record {
      past = [];
      stands = c.in-Ok.ensures.stands;
      waiting = c.in-Ok.ensures.waiting;
      rest = refl;
      sent = c.from_vec-sent.ensures ∙ c.new-2.ensures.items
          ∙ sym (none_sent c.args.config c.args.moment);
      no_fault = refl;
    }

pub returns-in_err-advance-clause-err : goal.returns-in_err-advance-clause-err
returns-in_err-advance-clause-err c =
    let so_far = c.loop-step.invariant in
    let steps = c.args.steps.now in
    let i = c.loop-step.step-index in
    let next : drop i steps ≡ c.step-item.result ∷ drop (i + 1) steps =
    next_left steps i c.step-item.result c.loop-step-test.true c.step-item.is in
    let p = err_from_is_err_and c.from_residual.result c.from_residual.ensures.1 in
    rw p.1
    (fault_is p.0 c.advance.new.fleet c.advance.new.sent c.args.config c.args.moment so_far.past
    (drop (i + 1) steps) steps c.step-item.result c.in_default.ensures
    c.if-moment-gt-LAST_MOMENT.false
    (rw next at so_far.no_fault)
    (rw p.2 (c.in_err-advance.ensures c.args.config c.args.moment so_far.past so_far.stands
    so_far.waiting so_far.sent)))

pub loop-step-preserved : goal.loop-step-preserved
loop-step-preserved c =
    let so_far = c.loop-step.invariant in
    let steps = c.args.steps.now in
    let i = c.loop-step.step-index in
    let next : drop i steps ≡ c.step-item.result ∷ drop (i + 1) steps =
    next_left steps i c.step-item.result c.loop-step-test.true c.step-item.is in
    let went = c.in_ok-advance.ensures c.args.config c.args.moment so_far.past so_far.stands
    so_far.waiting so_far.sent in
    record {
      past = then_done c.args.config c.args.moment so_far.past c.step-item.result;
      stands = went.stands;
      waiting = went.waiting;
      rest = left_then c.args.config c.args.moment so_far.past (drop (i + 1) steps) steps
          c.step-item.result (rw next at so_far.rest);
      sent = went.sent;
      no_fault = no_fault_then c.args.config c.args.moment so_far.past (drop (i + 1) steps) steps
          c.step-item.result went.no_fault (rw next at so_far.no_fault);
    }

pub returns-then-moment-gt-LAST_MOMENT-clause-err :
    goal.returns-then-moment-gt-LAST_MOMENT-clause-err
returns-then-moment-gt-LAST_MOMENT-clause-err c =
    opened_late c.args.config c.args.moment c.args.steps.now c.in_default.ensures
    c.if-moment-gt-LAST_MOMENT.true

pub returns-clause-ok : goal.returns-clause-ok
returns-clause-ok c =
    let so_far = c.loop-step.invariant in
    let steps = c.args.steps.now in
    let end : drop c.loop-step.step-index steps ≡ [] =
    drop_of_length-le steps c.loop-step-test.false in
    let all : so_far.past ≡ done c.args.config c.args.moment [] steps =
    sym (all_done c.args.config c.args.moment so_far.past) ∙ rw end at so_far.rest in
    record {
      stands = rw all at so_far.stands;
      waiting = so_far.waiting;
      sent = rw all at so_far.sent;
      no_fault = behind_opening c.args.config c.args.moment steps c.in_default.ensures
          c.if-moment-gt-LAST_MOMENT.false ∙ sym (rw end at so_far.no_fault)
          ∙ none_left c.args.config c.args.moment so_far.past;
    }

pub new-requires-clause-checked : goal.new-requires-clause-checked
new-requires-clause-checked c =
    front_none _ _ (front_none _ _ (front_none _ _ (front_none _ _ c.in_default.ensures)))
