-- Marks as they are packed, in parts: the bytes of the keys one behind the other, and of each mark
-- a word and its moment. The word has the length of its key and whether the key is in the set.
use Rattle.std.specs.Prelude.{◌≡◌, ◌≤◌, ◌%◌, ℕ, List, [], ◌∷◌, ◌++◌, length, take, drop, min}
use Rattle.std.specs.Prelude.{◌+◌, ◌-◌, ◌^◌, map}
use Rattle.std.specs.Prelude.{Bool, true, false, Option, None, Some, nat_lt, if◌then◌else◌}
use Rattle.std.specs.Arc.{arc_value}
use Rattle.std.specs.List.{AllByRecursion, flat_map, sum_by}
use Rattle.std.specs.declared.sync.Arc.{Arc}
use Rattle.pushed_keys.specs.declared.least.Least.{Least}
use Rattle.pushed_keys.specs.declared.marks.Packed.{Packed}
use Rattle.pushed_keys.specs.declared.parts.TheConstants.{LEFT}
use Rattle.pushed_keys.specs.declared.parts.Lent.{Lent}
use Rattle.pushed_keys.specs.declared.parts.Lists.{Lists}
use Rattle.pushed_keys.specs.declared.told.Mark.{Mark}

-- the length of a key, by its word
abbrev pub len_in : ℕ → ℕ
len_in word = word % LEFT

-- a word says how long a key is, and whether it is in the set
pub record IsWord (word len : ℕ) (is_in : Bool) : Type 0 where
  pub long : len_in word ≡ len
  pub side : nat_lt word LEFT ≡ is_in

-- a moment that is so long after the base of a part; there is none after the last of all
abbrev pub moment : ℕ → ℕ → ℕ
moment base after = min (base + after) (2 ^ 64 - 1)

abbrev pub moments : ℕ → List ℕ → List ℕ
moments base puts = map (moment base) puts

-- the marks that are packed so
abbrev pub unpacked : List ℕ → List ℕ → List ℕ → List Mark
unpacked bytes [] puts = []
unpacked bytes (word ∷ lens) [] = []
unpacked bytes (word ∷ lens) (put ∷ puts) =
    record { key = take (len_in word) bytes; put = put; is_in = nat_lt word LEFT }
    ∷ unpacked (drop (len_in word) bytes) lens puts

-- marks with other moments
abbrev pub with_puts : List Mark → List ℕ → List Mark
with_puts [] puts = []
with_puts (mark ∷ marks) [] = []
with_puts (mark ∷ marks) (put ∷ puts) =
    record { key = mark.key; put = put; is_in = mark.is_in } ∷ with_puts marks puts

-- the lesser of two moments, where there was one before
abbrev pub lesser : Option ℕ → ℕ → ℕ
lesser None put = put
lesser (Some least) put = min least put

-- the least moments with those of one key more
abbrev pub least_with : Least → Bool → ℕ → Least
least_with least true put =
    record { of_set = Some (lesser least.of_set put); of_left = least.of_left }
least_with least false put =
    record { of_set = least.of_set; of_left = Some (lesser least.of_left put) }

-- a moment isn't before the least, if there is one
abbrev pub IsNotBefore : Option ℕ → ℕ → Type 0
IsNotBefore None put = ⊥
IsNotBefore (Some least) put = least ≤ put

-- a mark isn't before the least of those of the set, or of the others
abbrev pub IsFrom : Least → Mark → Type 0
IsFrom least mark = IsNotBefore (if mark.is_in then least.of_set else least.of_left) mark.put

-- the last of marks, if there is one, is of this key
abbrev pub IsLast : List ℕ → List Mark → Type 0
IsLast key [] = Unit {0}
IsLast key (mark ∷ []) = mark.key ≡ key
IsLast key (mark ∷ next ∷ marks) = IsLast key (next ∷ marks)

-- each byte is of a key, each key has its moment, none is before the least, and the bytes of the
-- last key begin at this place
pub record IsPart (bytes lens puts : List ℕ) (least : Least) (last : ℕ) : Type 0 where
  pub whole : sum_by len_in lens ≡ length bytes
  pub timed : length lens ≡ length puts
  pub late : AllByRecursion (λ mark. IsFrom least mark) (unpacked bytes lens puts)
  pub ends : IsLast (drop last bytes) (unpacked bytes lens puts)

abbrev pub in_lists : Lists → List Mark
in_lists lists = unpacked lists.bytes.now lists.lens.now (moments lists.base lists.puts.now)

-- the marks of parts, one part behind the other
abbrev pub in_parts : {Z : Type 0} → List (Arc (List Mark) Z) → List Mark
in_parts {Z} parts = flat_map arc_value parts

abbrev pub marks_of : Packed → List Mark
marks_of packed = in_lists packed.front ++ in_parts packed.parts.now

-- a mark that is lent
abbrev pub lent : Lent → Mark
lent mark = record { key = mark.key.now; put = mark.put; is_in = mark.is_in }
