-- The keys that found no free word.
use Rattle.std.specs.Prelude.{◌≡◌, ℕ, true, List, Some}
use Rattle.std.specs.declared.cmp.Ordering.{Ordering}
use Rattle.std.specs.BTreeMap.{is_at}
use Rattle.std.specs.Map.{lookup}
use Rattle.place_index.specs.Marks.{is_marked}
use Rattle.place_index.specs.declared.crowd.Crowd.{Crowd}
use Rattle.place_index.specs.declared.marks.Marks.{Marks}

-- the map has the place for the key, and the key's hash is marked
pub record IsCrowded {K : Type 0} (cmp : K → K → Ordering) (crowd : Crowd K) (key : K)
    (hash at : ℕ) : Type 0 where
  pub marked : is_marked crowd.marks hash ≡ true
  pub is : lookup (is_at (cmp key)) crowd.places.entries ≡ Some at

-- the hash of each key of the map is marked
abbrev pub AreMarked : {K : Type 0} → (K → K → Ordering) → (K → ℕ) → List (K × ℕ) → Marks → Type 0
AreMarked {K} cmp hashed entries marks =
    (key : K) (at : ℕ) → lookup (is_at (cmp key)) entries ≡ Some at
    → is_marked marks (hashed key) ≡ true
