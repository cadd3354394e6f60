-- What contracts see of kept bounds: each key with how many leading zeros its bound has, in the
-- order of the keys.
use Rattle.std.specs.Prelude.{◌≡◌, ℕ, ◌<◌, ◌≤◌, false, List, Option, filter, map, nat_lt, take}
use Rattle.std.specs.BTreeMap.{is_at}
use Rattle.std.specs.Cmp.Lexicographic.{slice_cmp}
use Rattle.std.specs.List.Sorted.{IsStrictlySortedBy}
use Rattle.std.specs.Map.{keys_of, lookup}
use Rattle.std.specs.Option.{IsSomeAnd, option_map}
use Rattle.std.specs.Ordering.{nat_cmp}
use Rattle.expiry_wheel.specs.Entries.{IsInOrder, has_entry}
use Rattle.fleet_model.specs.Ranking.{in_order, rank_cmp}
use Rattle.fleet_model.specs.Seats.{is_number}
use Rattle.ranked.specs.Walk.{bound_of}

-- how many leading zeros a key's bound has
abbrev pub zeros_at : List (List ℕ × ℕ) → List ℕ → Option ℕ
zeros_at bounds key = lookup (is_at (slice_cmp nat_cmp key)) bounds

-- the bound of a key
abbrev pub bound_at : List (List ℕ × ℕ) → List ℕ → Option ℕ
bound_at bounds key = option_map bound_of (zeros_at bounds key)

-- a key has a bound of at least a value
abbrev pub IsBounded : List (List ℕ × ℕ) → List ℕ → ℕ → Type 0
IsBounded bounds key value = IsSomeAnd (bound_at bounds key) (λ bound. value ≤ bound)

-- each key with a live row has a bound of at least its value
abbrev pub AreAllBounded : List (List ℕ × ℕ) → (List ℕ → ℕ) → (List ℕ → ℕ) → Type 0
AreAllBounded bounds living value =
    (key : List ℕ) → 0 < living key → IsBounded bounds key (value key)

-- the bounds but a key's are what they were
abbrev pub AreOthersKept : List ℕ → List (List ℕ × ℕ) → List (List ℕ × ℕ) → Type 0
AreOthersKept key old new =
    (other : List ℕ) → is_at (slice_cmp nat_cmp key) other ≡ false
    → bound_at new other ≡ bound_at old other

-- of these keys, those with a live row, each with its value, by rank
abbrev pub ranking_of : (List ℕ → ℕ) → (List ℕ → ℕ) → List (List ℕ) → List (List ℕ × ℕ)
ranking_of living value keys =
    in_order rank_cmp (map (λ key. (key, value key)) (filter (λ key. nat_lt 0 (living key)) keys))

-- the first so many of them
abbrev pub first_ranked : ℕ → (List ℕ → ℕ) → (List ℕ → ℕ) → List (List ℕ) → List (List ℕ × ℕ)
first_ranked n living value keys = take n (ranking_of living value keys)

-- each key stands once, in order
abbrev pub IsByKey : List (List ℕ × ℕ) → Type 0
IsByKey bounds = IsStrictlySortedBy (slice_cmp nat_cmp) (keys_of bounds)

-- an index has each key by its bound, and nothing else
abbrev pub IsIndexOf : List (ℕ × List ℕ) → List (List ℕ × ℕ) → Type 0
IsIndexOf index bounds = (e : ℕ × List ℕ)
    → has_entry (slice_cmp nat_cmp) index e ≡ is_number (zeros_at bounds e.1) e.0

-- an index has each key once, by its bound, and nothing else
pub record IsListOf (index : List (ℕ × List ℕ)) (bounds : List (List ℕ × ℕ)) : Type 0 where
  pub exact : IsIndexOf index bounds
  pub in_order : IsInOrder (slice_cmp nat_cmp) index
