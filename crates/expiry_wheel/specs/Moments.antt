-- An index kept by moment: each moment with the items that stand at it.
use Rattle.std.specs.Prelude.{ℕ, ◌<◌, List, [], ◌∷◌, ◌++◌, map, length, ⊤}
use Rattle.std.specs.declared.cmp.Ordering.{Ordering}
use Rattle.std.specs.List.{AllByRecursion}
use Rattle.std.specs.List.Sorted.{IsStrictlySortedBy}

-- the entries of one moment
abbrev pub entries_at : {T : Type 0} → ℕ → List T → List (ℕ × T)
entries_at at items = map (λ x. (at, x)) items

-- the entries of all of them
abbrev pub entries_of : {T : Type 0} → List (ℕ × List T) → List (ℕ × T)
entries_of [] = []
entries_of (m ∷ moments) = entries_at m.0 m.1 ++ entries_of moments

-- moments ascend, and at each stand some items, which ascend
abbrev pub AreGroups : {T : Type 0} → (T → T → Ordering) → List (ℕ × List T) → Type 0
AreGroups cmp [] = ⊤
AreGroups cmp (m ∷ moments) =
    (0 < length m.1) × IsStrictlySortedBy cmp m.1 × AllByRecursion (λ n. m.0 < n.0) moments
    × AreGroups cmp moments
