-- What contracts see of an index: its entries, each a moment and an item.
use Rattle.std.specs.Prelude.{ℕ, Bool, List, [], ◌∷◌, Option, Some, None, nat_le, nat_lt}
use Rattle.std.specs.Prelude.{if◌then◌else◌}
use Rattle.std.specs.declared.cmp.Ordering.{Ordering}
use Rattle.std.specs.Ordering.{nat_cmp, ordering_then, is_lt}
use Rattle.std.specs.List.{find, list_any}
use Rattle.std.specs.List.Sorted.{IsStrictlySortedBy}
use Rattle.std.specs.BTreeMap.{is_at}
use Rattle.std.specs.BTreeSet.{insert_key}
use Rattle.std.specs.Set.{remove_key}
use Rattle.expiry_wheel.specs.Items.{first_item}

-- by moment, then by item
abbrev pub entry_cmp : {T : Type 0} → (T → T → Ordering) → ℕ × T → ℕ × T → Ordering
entry_cmp cmp a b = ordering_then (nat_cmp a.0 b.0) (cmp a.1 b.1)

-- the entries ascend, so no two are alike
abbrev pub IsInOrder : {T : Type 0} → (T → T → Ordering) → List (ℕ × T) → Type 0
IsInOrder cmp entries = IsStrictlySortedBy (entry_cmp cmp) entries

-- whether an entry is there
abbrev pub has_entry : {T : Type 0} → (T → T → Ordering) → List (ℕ × T) → ℕ × T → Bool
has_entry cmp entries e = list_any (is_at (entry_cmp cmp e)) entries

-- the entries with one more at its place, or as they are if it is there
abbrev pub with_entry : {T : Type 0} → (T → T → Ordering) → List (ℕ × T) → ℕ × T → List (ℕ × T)
with_entry cmp entries e = insert_key (entry_cmp cmp) entries e

-- the entries but one
abbrev pub without_entry : {T : Type 0} → (T → T → Ordering) → List (ℕ × T) → ℕ × T → List (ℕ × T)
without_entry cmp entries e = remove_key (is_at (entry_cmp cmp e)) entries

-- the moment of the first entry
abbrev pub first_moment : {T : Type 0} → List (ℕ × T) → Option ℕ
first_moment [] = None
first_moment (e ∷ entries) = Some e.0

-- the first entry, if its moment has come at t
abbrev pub first_due : {T : Type 0} → ℕ → List (ℕ × T) → Option (ℕ × T)
first_due t [] = None
first_due t (e ∷ entries) = if nat_le e.0 t then Some e else None

-- the entries but `first_due`
abbrev pub without_due : {T : Type 0} → ℕ → List (ℕ × T) → List (ℕ × T)
without_due t [] = []
without_due t (e ∷ entries) = if nat_le e.0 t then entries else e ∷ entries

-- the first entry
abbrev pub first_entry : {T : Type 0} → List (ℕ × T) → Option (ℕ × T)
first_entry entries = first_item entries

-- the first entry of a moment beyond one
abbrev pub first_beyond : {T : Type 0} → ℕ → List (ℕ × T) → Option (ℕ × T)
first_beyond at entries = find (λ e. nat_lt at e.0) entries

-- the first entry above the given one, or the first of all
abbrev pub first_above : {T : Type 0} → (T → T → Ordering) → Option (ℕ × T) → List (ℕ × T)
    → Option (ℕ × T)
first_above cmp None entries = first_entry entries
first_above cmp (Some given) entries = find (λ e. is_lt (entry_cmp cmp given e)) entries
