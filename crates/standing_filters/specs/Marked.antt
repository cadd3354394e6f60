-- Marks of hashes: of a key whose hash isn't marked it is known that no verdict is kept.
use Rattle.std.specs.Prelude.{◌≡◌, ◌<◌, ◌%◌, ℕ, Bool, true, false, List, Some, slice_index_or}
use Rattle.place_index.specs.Hash.{hash_of_bytes}
use Rattle.place_index.specs.Places.{key_at}
use Rattle.standing_filters.specs.Placed.{VerdictPlaces}

-- verdicts that lie in places, and for how many further ones there is room
pub record Marking : Type 0 where
  pub places : VerdictPlaces
  pub room : ℕ

-- whether a hash is marked: the mark is that of what is left of it
abbrev pub is_marked : List Bool → ℕ → Bool
is_marked marks hash = slice_index_or marks (hash % 4096) false

-- the hash of each key that lies in a place is marked
abbrev pub AreMarked : List Bool → VerdictPlaces → Type 0
AreMarked marks places = (at : ℕ) (key : List ℕ) → key_at places at ≡ Some key
    → is_marked marks (hash_of_bytes key) ≡ true

-- that of each key in the first of the places
abbrev pub AreMarkedUpTo : ℕ → List Bool → VerdictPlaces → Type 0
AreMarkedUpTo count marks places = (at : ℕ) (key : List ℕ) → at < count
    → key_at places at ≡ Some key → is_marked marks (hash_of_bytes key) ≡ true
