-- IPv6 addresses with `::`, and with all groups.
use Rattle.std.specs.Prelude.{ℕ, Bool, false, not, ◌==◌, List, [], ◌∷◌, ◌++◌, replicate}
use Rattle.std.specs.List.{list_all, join_with_byte}

-- whether a text is no empty one and has no colon, as what stands between two colons
abbrev pub is_part : List ℕ → Bool
is_part [] = false
is_part (byte ∷ rest) = list_all (λ byte. not (byte == 58)) (byte ∷ rest)

-- parts joined by colons, with `::` after the first ones
abbrev pub elided : List (List ℕ) → List (List ℕ) → List ℕ
elided front back = join_with_byte 58 front ++ (58 ∷ 58 ∷ join_with_byte 58 back)

-- parts joined by colons, with groups `0` after the first ones
abbrev pub with_groups : List (List ℕ) → ℕ → List (List ℕ) → List ℕ
with_groups front zeros back =
    join_with_byte 58 (front ++ (replicate zeros (48 ∷ []) ++ back))
