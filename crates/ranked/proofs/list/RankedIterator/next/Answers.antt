use Rattle.std.proofs.Common.{ℕ, List, ◌∷◌, ◌<◌, length, map, ap, sym, subst, ◌∙◌, ◌+◌, ◌-◌, arith}
use Rattle.std.proofs.lemmas.Bool.{eqb-true}
use Rattle.std.proofs.lemmas.List.{length-map}
use Rattle.std.specs.Prelude.{remove}
use Rattle.expiry_wheel.proofs.Left.{shorter}
use Rattle.ranked.specs.Walk.{IsWalk, counted, found, view_of_candidate}
use Rattle.ranked.proofs.Reached.{walk_reach}
use Rattle.ranked.proofs.Walking.{gives_first, gives_none, not_zero, removed_first}
use Rattle.ranked.proofs.list.RankedIterator.next.Goals as goal

pub returns-clause-steps : goal.returns-clause-steps
returns-clause-steps g c =
    let r = c.self.inside in
    let living : List ℕ → ℕ = λ key. g.V.Values.living r.values.now r.wanted.table key r.wanted.now in
    let value : List ℕ → ℕ = λ key. g.V.Values.summed r.values.now r.wanted.table key
    r.wanted.col r.wanted.now in
    let kept = c.take_certain-walked.new.candidates.items in
    let some : 0 < length kept = subst (λ l. 0 < length l) c.as_slice.ensures.value
    (not_zero (length c.as_slice.result.now) (sym c.is_empty.ensures ∙ c.if-is_empty.false)) in
    let left : 0 < r.left = omega (arith, c.if-self-eq0.false) in
    let all = removed_first kept c.remove.result some c.remove.ensures.value in
    let walk : IsWalk r.index.now (counted (r.walked + c.take_certain-walked.result))
    (map view_of_candidate kept)
    c.take_certain-walked.new.ahead = c.take_certain-walked.ensures.walked r.index.now r.walked
    c.self.invariant.4 in
    let given : IsWalk r.index.now (counted (r.walked + c.take_certain-walked.result))
    (view_of_candidate c.remove.result ∷ map view_of_candidate (remove kept 0))
    c.take_certain-walked.new.ahead =
    subst (λ l. IsWalk r.index.now (counted (r.walked + c.take_certain-walked.result))
    (map view_of_candidate l) c.take_certain-walked.new.ahead) all walk in (
      ap (λ v. v.left) (sym c.self.view_is) ∙ sym c.take_certain-walked.ensures.same
          ∙ gives_first living value r.left (map view_of_candidate kept)
          (map view_of_candidate (remove kept 0))
          (view_of_candidate c.remove.result) c.take_certain-walked.new.ahead
          (ap (λ l. map view_of_candidate l) all) left
          c.take_certain-walked.ensures.settled c.take_certain-walked.ensures.bounds
          c.take_certain-walked.ensures.first
          ∙ ap (λ l. view_of_candidate c.remove.result ∷ found living value (r.left - 1)
          (map view_of_candidate l) c.take_certain-walked.new.ahead) (sym c.remove.ensures.items),
      ap (λ v. v.index) c.self.view_is,
      record {
        taken = given.taken;
        split = given.split;
        count = c.saturating_add-self-inside.ensures ∙ given.count;
      },
      rw (← c.self.view_is) (omega (
        arith,
        walk_reach r.index.now c.take_certain-walked.new.ahead
            (view_of_candidate c.remove.result) (map view_of_candidate (remove kept 0))
            (counted (r.walked + c.take_certain-walked.result)) given,
      )),
    )

pub returns-clause-goes : goal.returns-clause-goes
returns-clause-goes g c = record {
  on = λ _. (tt, tt, shorter _ _ _ (returns-clause-steps g c).0);
  keeps = tt;
  rests = λ _. tt;
}

pub returns-then-is_empty-clause-steps : goal.returns-then-is_empty-clause-steps
returns-then-is_empty-clause-steps g c =
    let r = c.self.inside in
    let living : List ℕ → ℕ = λ key. g.V.Values.living r.values.now r.wanted.table key r.wanted.now in
    let value : List ℕ → ℕ = λ key. g.V.Values.summed r.values.now r.wanted.table key
    r.wanted.col r.wanted.now in
    let none = gives_none living value r.left
    (map view_of_candidate c.take_certain-walked.new.candidates.items)
    c.take_certain-walked.new.ahead (length-map c.take_certain-walked.new.candidates.items
    view_of_candidate ∙ ap length (sym c.as_slice.ensures.value)
    ∙ eqb-true (length c.as_slice.result.now) 0 (sym c.is_empty.ensures ∙ c.if-is_empty.true))
    c.take_certain-walked.ensures.settled in
    let walk : IsWalk r.index.now (counted (r.walked + c.take_certain-walked.result))
    (map view_of_candidate c.take_certain-walked.new.candidates.items)
    c.take_certain-walked.new.ahead = c.take_certain-walked.ensures.walked r.index.now r.walked
    c.self.invariant.4 in (
      (ap (λ v. v.left) (sym c.self.view_is) ∙ sym c.take_certain-walked.ensures.same ∙ none, none),
      ap (λ v. v.index) c.self.view_is,
      record {
        taken = walk.taken;
        split = walk.split;
        count = c.saturating_add-self-inside.ensures
            ∙ walk.count;
      },
      tt,
    )
