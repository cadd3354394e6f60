-- Sets of keys, and what sets, marks and changes say of one key.
use Rattle.std.specs.Prelude.{◌≤◌, ◌<◌, ◌^◌, ℕ, Bool, List, [], ◌∷◌, length, map}
use Rattle.std.specs.Prelude.{if◌then◌else◌, Option, None, Some, slice_index_or}
use Rattle.std.specs.Cmp.Lexicographic.{slice_cmp}
use Rattle.std.specs.List.{AllByRecursion, list_any}
use Rattle.std.specs.List.Sorted.{IsStrictlySortedBy}
use Rattle.std.specs.Ordering.{nat_cmp}
use Rattle.std.specs.Str.{bytes_eq}
use Rattle.agg_types.specs.declared.limits.TheConstants.{LONGEST_KEY}
use Rattle.pushed_keys.specs.declared.change.Change.{Change}
use Rattle.pushed_keys.specs.declared.told.Mark.{Mark}
use Rattle.telling.specs.Telling.{Told, table_at}

-- keys in the order of their bytes, each once
abbrev pub AreInOrder : List (List ℕ) → Type 0
AreInOrder keys = IsStrictlySortedBy (slice_cmp nat_cmp) keys

-- none is longer than the longest
abbrev pub AreShort : List (List ℕ) → Type 0
AreShort keys = AllByRecursion (λ key. length key ≤ LONGEST_KEY) keys

-- the keys of marks
abbrev pub keys_of : List Mark → List (List ℕ)
keys_of marks = map (λ mark. mark.key) marks

-- the set of each pushed table, by its place
pub record AreSets (sets : List (List (List ℕ))) : Type 0 where
  pub in_order : (place : ℕ) → AreInOrder (slice_index_or sets place [])
  pub short : (place : ℕ) → AreShort (slice_index_or sets place [])

-- what turns over such sets leave of each pushed table
pub record IsKept (told : Told) : Type 0 where
  pub in_order : (place : ℕ) → AreInOrder (keys_of (table_at told place).marks)
  pub short : (place : ℕ) → AreShort (keys_of (table_at told place).marks)
  pub ids : (place : ℕ) → (table_at told place).last < 2 ^ 32

-- whether a key is in a set
abbrev pub is_in : List ℕ → List (List ℕ) → Bool
is_in key set = list_any (bytes_eq key) set

-- the moment at which a key was last put, by its mark
abbrev pub put_of : List ℕ → List Mark → Option ℕ
put_of key [] = None
put_of key (mark ∷ marks) = if bytes_eq key mark.key then Some mark.put else put_of key marks

-- what is changed of a key
abbrev pub change_for : List ℕ → List (List ℕ × Change) → Option Change
change_for key [] = None
change_for key (change ∷ others) =
    if bytes_eq key change.0 then Some change.1 else change_for key others
