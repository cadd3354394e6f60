-- Verdicts in places, and these places in the order of their keys.
use Rattle.std.specs.Prelude.{◌≡◌, ◌≢◌, eqb, ℕ, List, [], Option, None, Some, IsSome, map, min}
use Rattle.std.specs.Prelude.{slice_set, true, unwrap_or}
use Rattle.std.specs.List.{AllByRecursion, list_any}
use Rattle.place_index.specs.Places.{AreDistinct, item_at, key_at, value_at}
use Rattle.place_order.specs.Orders.{AreByRank}
use Rattle.standing_filters.specs.Verdicts.{out}
use Rattle.standing_filters.specs.declared.judging.Verdict.{Verdict}

-- places, each empty or with a key and the verdict on it
abbrev pub VerdictPlaces : Type 0
VerdictPlaces = List (Option (List ℕ × Verdict))

-- the verdict in a place
abbrev pub verdict_in : VerdictPlaces → ℕ → Verdict
verdict_in places at = unwrap_or (value_at places at) out

-- when the verdict in a place changes
abbrev pub change_in : VerdictPlaces → ℕ → Option ℕ
change_in places at = (verdict_in places at).next

-- the key in a place, which is its rank
abbrev pub rank_in : VerdictPlaces → ℕ → List ℕ
rank_in places at = unwrap_or (key_at places at) []

-- the keys of places, each with its verdict
abbrev pub verdicts_in : VerdictPlaces → List ℕ → List (List ℕ × Verdict)
verdicts_in places order = map (λ at. (rank_in places at, verdict_in places at)) order

-- these are the places that have a key, in the order of the keys, and no key lies in two
pub record AreOrdered (places : VerdictPlaces) (order : List ℕ) : Type 0 where
  pub filled : AllByRecursion (λ at. IsSome (item_at places at)) order
  pub all : (at : ℕ) → IsSome (item_at places at) → list_any (eqb at) order ≡ true
  pub by_key : AreByRank (rank_in places) order
  pub distinct : AreDistinct places

-- all places but one have what they had
abbrev pub AreAlikeBut : ℕ → VerdictPlaces → VerdictPlaces → Type 0
AreAlikeBut at old new = (p : ℕ) → p ≢ at → item_at new p ≡ item_at old p

-- what lies in one place is another, and nothing else
abbrev pub IsSetAt : ℕ → VerdictPlaces → VerdictPlaces → Type 0
IsSetAt at old new = new ≡ slice_set old at (item_at new at)

-- the earlier of two moments, where there are any
abbrev pub earlier_of : Option ℕ → Option ℕ → Option ℕ
earlier_of None other = other
earlier_of (Some one) None = Some one
earlier_of (Some one) (Some other) = Some (min one other)
