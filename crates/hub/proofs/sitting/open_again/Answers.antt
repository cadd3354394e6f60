use Rattle.std.proofs.Common.{◌≡◌, ℕ, zero, suc, ◌+◌, ◌≤◌, Bool, true, false, nat_lt, List, get_or}
use Rattle.std.proofs.Common.{take, Some, refl, sym, ap, ◌∙◌, subst, add-one, arith}
use Rattle.std.proofs.lemmas.Bool.Decides.{nat_tests}
use Rattle.std.proofs.lemmas.List.Folds.{list_any_kept, list_any_more}
use Rattle.std.proofs.lemmas.Option.{get_or_from_slice_get, slice_get_within}
use Rattle.std.specs.Prelude.{◌||◌, slice_get}
use Rattle.std.specs.List.{list_any}
use Rattle.agg_types.specs.Whats.{as_what}
use Rattle.fleet_model.specs.Sessions.{opens}
use Rattle.hub.proofs.sitting.open_again.Goals as goal

-- where none of the first ones passes a test, the next one alone tells whether one of them does
any_more : {X : Type 0} (test : X → Bool) (xs : List X) (n : ℕ) (x : X)
    → slice_get xs n ≡ Some x → list_any test (take n xs) ≡ false
    → list_any test (take (n + 1) xs) ≡ test x
any_more test xs n x at none =
    list_any_more test xs n x (slice_get_within xs n x at)
    ∙ (ap (λ b. b || test (get_or xs n x)) none ∙ ap test (get_or_from_slice_get xs n x x at))

-- what is found among the first of them is found among more
any_within : {X : Type 0} (test : X → Bool) (xs : List X) (n m : ℕ) → n ≤ m
    → list_any test (take n xs) ≡ true → list_any test (take m xs) ≡ true
any_within test xs n zero within found =
    let none : n ≡ 0 = omega arith in
    subst (λ i. list_any test (take i xs) ≡ true) none found
any_within test xs n (suc m) within found =
    by_test (nat_lt m n) refl (λ earlier. any_within test xs n m earlier found)
  where
    by_test : (b : Bool) → nat_lt m n ≡ b
        → (n ≤ m → list_any test (take m xs) ≡ true) → list_any test (take (suc m) xs) ≡ true
    by_test true last before =
        let here : n ≡ suc m = grind (arith, nat_tests) in
        subst (λ i. list_any test (take i xs) ≡ true) here found
    by_test false earlier before =
        subst (λ i. list_any test (take i xs) ≡ true) (add-one m)
        (list_any_kept test xs m (before (grind (arith, nat_tests))))

pub returns-then-opens : goal.returns-then-opens
returns-then-opens c =
    let test = opens c.args.peer in
    let whats = c.args.whats.now in
    let i = c.loop-i.i in
    let more = any_more test whats i (as_what c.at.result) c.at.ensures.get c.loop-i.invariant in
    sym (any_within test whats (i + 1) c.args.place (omega (arith, c.loop-i-test.true))
    (more ∙ (sym c.opens.ensures ∙ c.if-opens.true)))

pub loop-i-preserved : goal.loop-i-preserved
loop-i-preserved c =
    any_more (opens c.args.peer) c.args.whats.now c.loop-i.i (as_what c.at.result) c.at.ensures.get
    c.loop-i.invariant ∙ (sym c.opens.ensures ∙ c.if-opens.false)
