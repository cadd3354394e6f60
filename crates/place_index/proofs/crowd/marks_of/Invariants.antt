use Rattle.std.proofs.Common.{◌≡◌, ◌⊎◌, ℕ, Some, true}
use Rattle.std.specs.BTreeMap.{is_at}
use Rattle.std.specs.Map.{lookup}
use Rattle.place_index.specs.Marks.{is_marked}
use Rattle.place_index.proofs.crowd.marks_of.Given as goal

-- what isn't marked yet is to come
abbrev pub invariant-loop-key : goal.invariant-loop-key
invariant-loop-key g l =
    (key : g.row.K.Denot) (at : ℕ) → lookup (is_at (g.K.Ord.cmp key)) l.places.entries ≡ Some at
    → (is_marked l.marks (g.K.IndexKey.hashed key) ≡ true)
    ⊎ (lookup (is_at (g.K.Ord.cmp key)) l.key-iterator ≡ Some at)
