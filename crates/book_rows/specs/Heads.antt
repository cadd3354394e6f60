-- The number of a key's first bytes.
use Rattle.std.specs.Prelude.{◌≡◌, ◌<◌, ℕ, zero, suc, List, [], ◌∷◌, slice_index_or}
use Rattle.std.specs.Int.{w64, from_be_bytes}

-- n bytes from a place on, with zeros behind the last
abbrev pub bytes_from : List ℕ → ℕ → ℕ → List ℕ
bytes_from bytes at zero = []
bytes_from bytes at (suc n) = slice_index_or bytes at 0 ∷ bytes_from bytes (suc at) n

-- the number of the first eight bytes, the first one the greatest
abbrev pub head_of : List ℕ → ℕ
head_of bytes = from_be_bytes w64 (bytes_from bytes 0 8)

-- a number is that of a key's first bytes, each below 256
pub record IsHead (head : ℕ) (key : List ℕ) : Type 0 where
  pub is : head ≡ head_of key
  pub small : (at : ℕ) → slice_index_or key at 0 < 256
