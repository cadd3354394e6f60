use Rattle.std.proofs.Common.{◌≡◌, ◌-◌, ◌∙◌, ◌<◌, length, take, sym, arith}
use Rattle.std.proofs.lemmas.List.{take_more_set, take_all}
use Rattle.update_values.specs.Values.{numbers_at}
use Rattle.update_values.proofs.PlanLemmas.{numbers_none, numbers_more, numbers_cut, numbers_all}
use Rattle.update_values.proofs.plan.read_numbers.Goals as goal

pub loop-number-init : goal.loop-number-init
loop-number-init c =
    let whole : length c.args.numbers.now - 0 ≡ length c.args.numbers.now = omega arith in
    rw whole (numbers_none (numbers_at (length c.args.numbers.now) c.args.bytes.now))

pub returns-in_err-value-clause-numbers : goal.returns-in_err-value-clause-numbers
returns-in_err-value-clause-numbers c =
    let cut = numbers_cut (length c.args.numbers.now) c.loop-number.number-index
    (take c.loop-number.number-index c.loop-number.numbers) c.loop-number.rest.now (omega arith)
    (sym c.in_err-value.ensures) in
    rw c.from_residual.ensures (sym cut ∙ c.loop-number.invariant)

pub loop-number-preserved : goal.loop-number-preserved
loop-number-preserved c =
    let room : c.loop-number.number-index < length c.loop-number.numbers = omega arith in
    let more = numbers_more (length c.args.numbers.now) c.loop-number.number-index
    (take c.loop-number.number-index c.loop-number.numbers) c.loop-number.rest.now
    c.in_ok-value.after.now c.in_ok-value.value (omega arith) (sym c.in_ok-value.ensures) in
    rw (take_more_set c.loop-number.numbers c.loop-number.number-index c.in_ok-value.value room)
    (sym more ∙ c.loop-number.invariant)

pub returns-clause-numbers : goal.returns-clause-numbers
returns-clause-numbers c =
    let at_end : c.loop-number.number-index ≡ length c.args.numbers.now = omega arith in
    let whole : take c.loop-number.number-index c.loop-number.numbers ≡ c.loop-number.numbers =
    take_all c.loop-number.number-index c.loop-number.numbers (omega arith) in
    let kept = rw whole at c.loop-number.invariant in
    sym (numbers_all (length c.args.numbers.now) c.loop-number.number-index c.loop-number.numbers
    c.loop-number.rest.now at_end) ∙ kept
