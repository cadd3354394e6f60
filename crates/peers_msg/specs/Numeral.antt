-- Encoded integers: what spells one, and which number it is.
use Rattle.std.specs.Prelude.{◌≡◌, ℕ, zero, suc, ◌+◌, ◌*◌, ◌^◌, ◌<◌, ◌≤◌, Bool, false, ◌||◌, nat_lt}
use Rattle.std.specs.Prelude.{nat_le, List, [], ◌∷◌, ◌++◌, length, Option, Some, None, Result, Ok}
use Rattle.std.specs.Prelude.{Err, if◌then◌else◌}
use Rattle.peers_msg.specs.declared.integer.IntTooLarge.{IntTooLarge}

-- what one more in a byte stands for, at each place of a spelling: 1, 2^4, 2^11, 2^18, ..
abbrev pub weight : ℕ → ℕ
weight zero = 1
weight (suc place) = 2 ^ (7 * place + 4)

-- the sum of the bytes times their weights, where the first stands at this place
abbrev pub value_from : ℕ → List ℕ → ℕ
value_from place [] = 0
value_from place (b ∷ bytes) = b * weight place + value_from (suc place) bytes

abbrev pub value : List ℕ → ℕ
value bytes = value_from 0 bytes

-- what follows a first byte of 240 or more: bytes of 128 or more, then one below
abbrev pub IsTail : List ℕ → Type 0
IsTail [] = ⊥
IsTail (b ∷ []) = b < 128
IsTail (b ∷ c ∷ bytes) = (128 ≤ b) × (b < 256) × IsTail (c ∷ bytes)

-- one byte below 240, or one of 240 or more and what follows it
abbrev pub IsSpelling : List ℕ → Type 0
IsSpelling [] = ⊥
IsSpelling (b ∷ []) = b < 240
IsSpelling (b ∷ c ∷ bytes) = (240 ≤ b) × (b < 256) × IsTail (c ∷ bytes)

-- the bytes so far stand for more than 2^64 - 1
abbrev pub IsOver : List ℕ → Type 0
IsOver bytes = 2 ^ 64 ≤ value bytes

-- the front of these bytes up to the first below 128, or all of them where none is
abbrev pub tail_front : List ℕ → List ℕ
tail_front [] = []
tail_front (b ∷ bytes) = if nat_lt b 128 then b ∷ [] else b ∷ tail_front bytes

abbrev pub tail_ends : List ℕ → Bool
tail_ends [] = false
tail_ends (b ∷ bytes) = nat_lt b 128 || tail_ends bytes

-- the spelling at the front of these bytes, or all of them where it doesn't end in them
abbrev pub spelling_front : List ℕ → List ℕ
spelling_front [] = []
spelling_front (b ∷ bytes) = if nat_lt b 240 then b ∷ [] else b ∷ tail_front bytes

abbrev pub spelling_ends : List ℕ → Bool
spelling_ends [] = false
spelling_ends (b ∷ bytes) = nat_lt b 240 || tail_ends bytes

-- the number at the front and the length of its spelling, None where the bytes end first, the fault
-- where what is there is over
unfoldable pub integer_at : List ℕ → Result (Option (ℕ × ℕ)) IntTooLarge
integer_at bytes =
    if nat_le (2 ^ 64) (value (spelling_front bytes)) then Err (record {})
    else if spelling_ends bytes
    then Ok (Some (value (spelling_front bytes), length (spelling_front bytes))) else Ok None

-- an integer of these bytes stands at the front
abbrev pub IsIntegerAt : List ℕ → ℕ → ℕ → Type 0
IsIntegerAt bytes n len =
    (text rest : List ℕ) × (bytes ≡ text ++ rest) × IsSpelling text × (value text ≡ n)
    × (length text ≡ len) × (n < 2 ^ 64)

-- the bytes are a proper front of a spelling, and not over
abbrev pub IsCut : List ℕ → Type 0
IsCut bytes =
    (value bytes < 2 ^ 64) × ((more : List ℕ) × (0 < length more) × IsSpelling (bytes ++ more))

-- a front of the bytes is one of a spelling, and over
abbrev pub IsTooLarge : List ℕ → Type 0
IsTooLarge bytes =
    (front more rest : List ℕ) × (bytes ≡ front ++ rest) × IsSpelling (front ++ more) × IsOver front
