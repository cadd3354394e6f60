use Rattle.std.specs.Prelude.{◌≡◌, ℕ, List, [], ◌∷◌, Option, Some, None}
use Rattle.std.specs.BTreeMap.{is_at}
use Rattle.std.specs.Cmp.Lexicographic.{slice_cmp}
use Rattle.std.specs.List.{IsDistinct}
use Rattle.std.specs.Map.{keys_of, lookup}
use Rattle.std.specs.Ordering.{eq_by_cmp, nat_cmp}
use Rattle.peer_rows.specs.declared.row.Row.{Row}
use Rattle.peer_rows.specs.Places.{Keys}

-- the same keys with the same rows, each key once, in whatever order
pub record AreKeysOf (keys walk : Keys) : Type 0 where
  pub once : IsDistinct (eq_by_cmp (slice_cmp nat_cmp)) (keys_of walk)
  pub alike : (key : List ℕ) → lookup (is_at (slice_cmp nat_cmp key)) walk
      ≡ lookup (is_at (slice_cmp nat_cmp key)) keys

-- what there is, if there is anything
abbrev pub if_any : {X : Type 0} → List X → Option (List X)
if_any [] = None
if_any (x ∷ xs) = Some (x ∷ xs)

-- the keys that have rows, each once with its rows, in whatever order
pub record IsEachKey (rows : List ℕ → List (ℕ × Row)) (walk : Keys) : Type 0 where
  pub once : IsDistinct (eq_by_cmp (slice_cmp nat_cmp)) (keys_of walk)
  pub exact : (key : List ℕ) → lookup (is_at (slice_cmp nat_cmp key)) walk ≡ if_any (rows key)
