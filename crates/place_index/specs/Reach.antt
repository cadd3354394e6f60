use Rattle.std.specs.Prelude.{◌≡◌, ◌≤◌, ◌-◌, ◌⊎◌, ℕ, List, Option, Some}
use Rattle.std.specs.declared.cmp.Ordering.{Ordering}
use Rattle.std.specs.Vec.{vec_len, vec_capacity}
use Rattle.place_index.specs.Crowd.{IsCrowded}
use Rattle.place_index.specs.Loose.{IsLoose}
use Rattle.place_index.specs.Places.{key_at, filled, AreDistinct}
use Rattle.hash_windows.specs.Windows.{Has}
use Rattle.place_index.specs.declared.reach.Reach.{Reach}

-- a place is reached from a key: by a word of its hash's window, by the ordered map, or since it
-- is among the few for which the map had no memory
abbrev pub Leads : {K : Type 0} → (K → K → Ordering) → (K → ℕ) → Reach K → K → ℕ → Type 0
Leads cmp hashed reach key at =
    Has reach.windows (hashed key) at
    ⊎ (IsCrowded cmp reach.crowd key (hashed key) at ⊎ IsLoose reach.loose.items at)

-- how many places are reached whatever memory there is
abbrev pub spare : {K : Type 0} → Reach K → ℕ
spare reach = vec_capacity reach.loose - vec_len reach.loose

-- no key lies in two places, and each filled place is reached from its key. That all that is
-- reached is right isn't said: whoever finds a place looks at its key.
pub record IsIndex {K V : Type 0} (cmp : K → K → Ordering) (hashed : K → ℕ) (reach : Reach K)
    (places : List (Option (K × V))) : Type 0 where
  pub distinct : AreDistinct places
  pub reached : (at : ℕ) (key : K) → key_at places at ≡ Some key → Leads cmp hashed reach key at

-- the filled places are counted, and there is memory for so many further keys: for `most` places
-- behind the last, and for what leads to them
pub record IsCounted {K V : Type 0} (reach : Reach K) (places : List (Option (K × V)))
    (count most room : ℕ) : Type 0 where
  pub counted : count ≡ filled places
  pub within : room ≤ most
  pub spared : room ≤ spare reach
