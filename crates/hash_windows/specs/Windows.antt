use Rattle.std.specs.Prelude.{◌≡◌, ℕ, ◌+◌, ◌-◌, ◌*◌, ◌/◌, ◌%◌}
use Rattle.std.specs.Prelude.{◌^◌, List, [], Some, length, slice_get}
use Rattle.std.specs.Prelude.{slice_index_or, nat_lt, if◌then◌else◌}
use Rattle.std.specs.Option.{option_map}
use Rattle.hash_windows.specs.declared.windows.Word.{Word}
use Rattle.hash_windows.specs.declared.windows.Windows.{Windows}

-- the 24 bits of a hash that words have
abbrev pub short_of : ℕ → ℕ
short_of hash = hash / 256 % 2 ^ 24

-- the short hash of a word
abbrev pub hash_in : Word → ℕ
hash_in word = word.hash_high * 65536 + word.hash_low

-- the number of a word: that of its place plus one, and 0 where it is free
abbrev pub place_in : Word → ℕ
place_in word = word.place_high * 65536 + word.place_low

-- the word that names a place for keys of a short hash
abbrev pub word_of : ℕ → ℕ → Word
word_of hash at =
    record {
      hash_low = hash % 65536;
      hash_high = hash / 65536;
      place_high = (at + 1) / 65536;
      place_low = (at + 1) % 65536;
    }

-- the number of the window of a short hash, of so many windows. Those from `half` up to `wide` are
-- made one by one, each out of the one that is `half` below it.
abbrev pub home : ℕ → ℕ → ℕ → ℕ → ℕ
home wide half count hash =
    if nat_lt (hash % wide) count then hash % wide else hash % wide - half

-- the word of an index has this number
abbrev pub Names : List Word → ℕ → ℕ → Type 0
Names window index place = option_map place_in (slice_get window index) ≡ Some place

-- the word of an index is free
abbrev pub IsFreeAt : List Word → ℕ → Type 0
IsFreeAt window index = Names window index 0

-- a word stands in a window
pub record IsIn (window : List Word) (word : Word) : Type 0 where
  pub index : ℕ
  pub is : slice_get window index ≡ Some word

-- the window of a hash has a word that names the place
pub record Has (windows : Windows) (hash at : ℕ) : Type 0 where
  pub word : IsIn (slice_index_or windows.windows.items
      (home windows.wide windows.half (length windows.windows.items) (short_of hash)) [])
      (word_of (short_of hash) at)
