-- What contracts see of the bounds of several ranked lists.
use Rattle.std.specs.Prelude.{◌≡◌, ◌≢◌, ℕ, List, [], length, slice_index_or}
use Rattle.ranked.specs.Bounds.{AreOthersKept}

-- the bounds of the list at a position
abbrev pub bounds_of : List (List (List ℕ × ℕ)) → ℕ → List (List ℕ × ℕ)
bounds_of leaders list = slice_index_or leaders list []

-- at most a key's bound in one of the lists has changed
pub record IsOneKeyOf (list : ℕ) (key : List ℕ) (old new : List (List (List ℕ × ℕ))) : Type 0 where
  pub count : length new ≡ length old
  pub lists : (other : ℕ) → other ≢ list → bounds_of new other ≡ bounds_of old other
  pub keys : AreOthersKept key (bounds_of old list) (bounds_of new list)
