use Rattle.std.specs.Prelude.{ℕ, Bool, true, not, List, Option, None, Some}
use Rattle.std.specs.List.{dedup, dedup_from}
use Rattle.std.specs.Borrow.{Bor}
use Rattle.fleet_model.specs.Values.{same_key}

-- whether a key isn't the last one
abbrev pub is_other : Option (Bor (List ℕ)) → List ℕ → Bool
is_other None key = true
is_other (Some last) key = not (same_key key last.now)

-- the distinct keys that are still to come, the last one included
abbrev pub to_come : Option (Bor (List ℕ)) → List (List ℕ) → List (List ℕ)
to_come None keys = dedup same_key keys
to_come (Some last) keys = dedup_from same_key last.now keys

-- how many keys a last one is
abbrev pub as_one : Option (Bor (List ℕ)) → ℕ
as_one None = 0
as_one (Some last) = 1
