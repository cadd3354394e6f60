-- How many places are filled, as one is.
use Rattle.std.proofs.Common.{◌≡◌, ℕ, zero, suc, ◌+◌, ◌≤◌, List, [], ◌∷◌, length}
use Rattle.std.proofs.Common.{Some, None, Option, refl, ap, sym, arith}
use Rattle.std.proofs.lemmas.Option.{none-some}
use Rattle.std.specs.Option.{option_map}
use Rattle.std.specs.Prelude.{slice_set, slice_index_or}
use Rattle.place_index.specs.Places.{laid, revalued, filled}

pub filled-laid : {X : Type 0} (places : List (Option X)) (at : ℕ) (x : X)
    → at ≤ length places → slice_index_or places at None ≡ None
    → filled (laid places at (Some x)) ≡ filled places + 1
filled-laid [] zero x within empty = refl
filled-laid [] (suc at) x within empty = absurd (omega arith)
filled-laid (None ∷ places) zero x within empty = refl
filled-laid (Some y ∷ places) zero x within empty = absurd (none-some y (sym empty))
filled-laid (None ∷ places) (suc at) x within empty =
    filled-laid places at x (omega arith) empty
filled-laid (Some y ∷ places) (suc at) x within empty =
    let later = filled-laid places at x (omega arith) empty in omega arith

pub filled-emptied : {X : Type 0} (places : List (Option X)) (at : ℕ) (x : X)
    → slice_index_or places at None ≡ Some x
    → filled (slice_set places at None) + 1 ≡ filled places
filled-emptied [] zero x is = absurd (none-some x is)
filled-emptied [] (suc at) x is = absurd (none-some x is)
filled-emptied (None ∷ places) zero x is = absurd (none-some x is)
filled-emptied (Some y ∷ places) zero x is = refl
filled-emptied (None ∷ places) (suc at) x is = filled-emptied places at x is
filled-emptied (Some y ∷ places) (suc at) x is =
    let later = filled-emptied places at x is in omega arith

-- what is filled stays so, and what is empty
filled-set : {X : Type 0} (places : List (Option X)) (at : ℕ) (f : X → X)
    → filled (slice_set places at (option_map f (slice_index_or places at None)))
    ≡ filled places
filled-set [] zero f = refl
filled-set [] (suc at) f = refl
filled-set (None ∷ places) zero f = refl
filled-set (Some x ∷ places) zero f = refl
filled-set (None ∷ places) (suc at) f = filled-set places at f
filled-set (Some x ∷ places) (suc at) f = ap (λ n. n + 1) (filled-set places at f)

pub filled-revalued : {K V : Type 0} (places : List (Option (K × V))) (at : ℕ) (value : V)
    → filled (revalued places at value) ≡ filled places
filled-revalued {K} {V} places at value = filled-set places at (λ (i : K × V). (i.0, value))

pub filled_within : {X : Type 0} (places : List (Option X)) → filled places ≤ length places
filled_within [] = omega arith
filled_within (None ∷ places) = let later = filled_within places in omega arith
filled_within (Some x ∷ places) = let later = filled_within places in omega arith
