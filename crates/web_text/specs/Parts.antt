-- Which keys of a list are told.
use Rattle.std.specs.Prelude.{◌≡◌, ℕ, Bool, true, nat_lt, List, filter, length, take, Option, None}
use Rattle.std.specs.Prelude.{Some}
use Rattle.std.specs.Cmp.Lexicographic.{slice_cmp}
use Rattle.std.specs.Ordering.{nat_cmp}
use Rattle.std.specs.declared.cmp.Ordering.{Ordering}
use Rattle.std.specs.declared.cmp.Ordering.TheVariants.{Greater}

abbrev pub is_greater : Ordering → Bool
is_greater Greater = true
is_greater _ = Rattle.std.specs.Prelude.false

-- a key stands behind another one, or behind none
abbrev pub is_behind : Option (List ℕ) → List ℕ → Bool
is_behind None key = true
is_behind (Some after) key = is_greater (slice_cmp nat_cmp key after)

-- the keys that may be told: those behind one
abbrev pub behind : Option (List ℕ) → List (List ℕ) → List (List ℕ)
behind after keys = filter (is_behind after) keys

-- those that are told are the first ones, at most so many; whether more follow is told too
pub record IsPart (limit : ℕ) (after : Option (List ℕ)) (keys told : List (List ℕ)) (more : Bool)
    : Type 0 where
  pub first : told ≡ take limit (behind after keys)
  pub goes_on : more ≡ nat_lt limit (length (behind after keys))
