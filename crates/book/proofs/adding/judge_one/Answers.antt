use Rattle.std.proofs.Common.{◌≡◌, ℕ, ap, subst}
use Rattle.std.proofs.lemmas.Result.{on_ok_weaker}
use Rattle.fleet_model.specs.State.{State}
use Rattle.standing_filters.specs.Watched.{IsTouched}
use Rattle.book.specs.OneKey.{KeyOf, living_of_key, sums_of}
use Rattle.book.specs.Verdicts.{living_in, sums_in}
use Rattle.book.proofs.OneKeyed.{one_flat_soon, one_touches}
use Rattle.book.proofs.adding.judge_one.Goals as goal

pub returns-clause-touched : goal.returns-clause-touched
returns-clause-touched c = λ fresh.
    let state = c.args.machine.now in
    let of : KeyOf = c.of_rows-values.result in
    let key = c.args.key.now in
    let old = c.args.adding.now in
    let new = c.judge.new.self in
    let moment : c.machine.inside.moment ≡ state.moment =
    ap (λ (s : State). s.moment) c.machine.view_is in
    on_ok_weaker c.judge.result (λ touched.
    subst (λ (t : ℕ). IsTouched (sums_in state) (living_in state) c.args.table key t old new) moment
    (one_touches state c.args.table key of c.machine.inside.moment old new c.of_rows-values.ensures
    (subst (λ (n : ℕ). IsTouched (λ t k. sums_of of) (λ t k. living_of_key of) n key
    c.machine.inside.moment old new) c.requires.table touched))) (c.judge.ensures.ok fresh)

pub returns-clause-few : goal.returns-clause-few
returns-clause-few c = c.judge.ensures.counted (one_flat_soon c.args.machine.now c.args.table
    c.args.key.now c.of_rows-values.result c.machine.inside.moment c.requires.sound
    (ap (λ (s : State). s.moment) c.machine.view_is) c.of_rows-values.ensures)
