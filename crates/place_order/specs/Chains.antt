-- Places one after another, by the place that comes next.
use Rattle.std.specs.Prelude.{◌≡◌, ◌≢◌, ◌<◌, ℕ, zero, suc, List, [], ◌∷◌, length}
use Rattle.std.specs.Prelude.{slice_index_or}
use Rattle.place_order.specs.Orders.{IsPlaceIn}

-- the place that comes behind one
abbrev pub next_in : List ℕ → ℕ → ℕ
next_in nexts place = slice_index_or nexts place 4294967295

-- so many places, from one on
abbrev pub walked : List ℕ → ℕ → ℕ → List ℕ
walked nexts at zero = []
walked nexts at (suc left) = at ∷ walked nexts (next_in nexts at) left

-- from a place on, these come one after another, and then none
abbrev pub AreChained : List ℕ → ℕ → List ℕ → Type 0
AreChained nexts at [] = at ≡ 4294967295
AreChained nexts at (place ∷ places) =
    (at ≡ place) × IsPlaceIn (length nexts) place × AreChained nexts (next_in nexts place) places

-- the last of these places, or else the one given
abbrev pub last_of : ℕ → List ℕ → ℕ
last_of none [] = none
last_of none (place ∷ places) = last_of place places

-- behind a place, or at the beginning, comes another one, and all else is as it was
pub record IsLed (old new : List ℕ) (old_first new_first before to : ℕ) : Type 0 where
  pub len : length new ≡ length old
  pub at_first : before ≡ 4294967295 → new_first ≡ to
  pub same_first : before ≢ 4294967295 → new_first ≡ old_first
  pub next : before < 4294967295 → before < length old → next_in new before ≡ to
  pub others : (q : ℕ) → q ≢ before → next_in new q ≡ next_in old q
