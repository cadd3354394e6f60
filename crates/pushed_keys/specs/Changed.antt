-- Changes as they are packed: the bytes of the keys one behind the other, and of each change a
-- word, which has the length of its key and whether it is taken away.
use Rattle.std.specs.Prelude.{◌≡◌, ◌≤◌, ℕ, List, [], ◌∷◌, length, take, drop, nat_lt, if◌then◌else◌}
use Rattle.std.specs.List.{sum_by}
use Rattle.pushed_keys.specs.Packed.{len_in}
use Rattle.pushed_keys.specs.declared.change.Change.{Change}
use Rattle.pushed_keys.specs.declared.change.Change.TheVariants.{Put, TakeAway}
use Rattle.pushed_keys.specs.declared.parts.TheConstants.{LEFT}

-- what happened to a key, by its word
abbrev pub change_in : ℕ → Change
change_in word = if nat_lt word LEFT then Put else TakeAway

-- the changes that are packed so
abbrev pub unpacked_changes : List ℕ → List ℕ → List (List ℕ × Change)
unpacked_changes bytes [] = []
unpacked_changes bytes (word ∷ words) =
    (take (len_in word) bytes, change_in word) ∷ unpacked_changes (drop (len_in word) bytes) words

-- so many words and bytes are behind, and each byte that is left is of a key
pub record AreChanges (bytes words : List ℕ) (behind begin : ℕ) : Type 0 where
  pub words_left : behind ≤ length words
  pub bytes_left : begin ≤ length bytes
  pub whole : sum_by len_in (drop behind words) ≡ length (drop begin bytes)

-- a word says how long a key is, and what happened to it
pub record IsChange (word len : ℕ) (change : Change) : Type 0 where
  pub long : len_in word ≡ len
  pub says : change_in word ≡ change
