-- Two lists of entries as one, by moment.
use Rattle.std.specs.Prelude.{ℕ, Bool, true, false, List, [], ◌∷◌, ◌++◌, map, Option, Some, None}
use Rattle.std.specs.Prelude.{nat_lt, ◌⊎◌, filter, if◌then◌else◌}
use Rattle.std.proofs.Common.{inl, inr}
use Rattle.std.specs.declared.cmp.Ordering.{Ordering}
use Rattle.std.specs.Ordering.{is_lt}
use Rattle.expiry_wheel.specs.Entries.{entry_cmp}

-- the entries at the front with moments before t
abbrev pub entries_until : {T : Type 0} → ℕ → List (ℕ × T) → List (ℕ × T)
entries_until t [] = []
entries_until t (e ∷ entries) = if nat_lt e.0 t then e ∷ entries_until t entries else []

-- the entries but those
abbrev pub entries_from : {T : Type 0} → ℕ → List (ℕ × T) → List (ℕ × T)
entries_from t [] = []
entries_from t (e ∷ entries) = if nat_lt e.0 t then entries_from t entries else e ∷ entries

-- both lists by moment. At one moment, the first list's entries come first.
abbrev pub merged : {T U : Type 0} → List (ℕ × T) → List (ℕ × U) → List ((ℕ × T) ⊎ (ℕ × U))
merged [] seconds = map inr seconds
merged (e ∷ firsts) seconds =
    map inr (entries_until e.0 seconds) ++ inl e ∷ merged firsts (entries_from e.0 seconds)

-- what is left of a list whose next entry is this
abbrev pub left_from : {T : Type 0} → (T → T → Ordering) → Option (ℕ × T) → List (ℕ × T)
    → List (ℕ × T)
left_from cmp None entries = []
left_from cmp (Some next) entries = next ∷ filter (λ e. is_lt (entry_cmp cmp next e)) entries

-- whether the second of two next entries comes before the first
abbrev pub second_comes_first : {T U : Type 0} → Option (ℕ × T) → Option (ℕ × U) → Bool
second_comes_first None second = true
second_comes_first (Some e) None = false
second_comes_first (Some e) (Some s) = nat_lt s.0 e.0
