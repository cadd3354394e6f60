use Rattle.std.specs.Prelude.{ℕ, List, [], ◌∷◌, ◌*◌, ◌/◌, ◌%◌, ◌^◌, bit_xor}

-- a state with a further byte in it: their difference by bits, times an odd number
abbrev pub mixed : ℕ → ℕ → ℕ
mixed state byte = bit_xor state byte * 11400714819323198485 % 2 ^ 64

-- the state with all bytes in it, one after another
abbrev pub mixed_all : ℕ → List ℕ → ℕ
mixed_all state [] = state
mixed_all state (byte ∷ bytes) = mixed_all (mixed state byte) bytes

-- the hash of a key's bytes: the upper half of the state that they leave
abbrev pub hash_of_bytes : List ℕ → ℕ
hash_of_bytes bytes = mixed_all 14695981039346656037 bytes / 2 ^ 32
