-- Names as the log and `show peers` write them. A configured name is of printable bytes.
use Rattle.std.specs.Prelude.{ℕ, ◌==◌, Bool, ◌&&◌, ◌||◌, not, if◌then◌else◌, List, [], ◌∷◌}
use Rattle.std.specs.Prelude.{◌++◌, codes}
use Rattle.std.specs.List.{flat_map, list_all}

-- a quote of either kind, or a backslash
abbrev pub needs_escape : ℕ → Bool
needs_escape byte = byte == 34 || byte == 39 || byte == 92

abbrev pub escaped : ℕ → List ℕ
escaped byte = if needs_escape byte then 92 ∷ byte ∷ [] else byte ∷ []

-- neither of these, nor an equals sign
abbrev pub is_bare : ℕ → Bool
is_bare byte = not (needs_escape byte) && not (byte == 61)

-- a name as it is, or in quotes
abbrev pub name_text : List ℕ → List ℕ
name_text name =
    if list_all is_bare name then name
    else (codes "\"" ++ flat_map escaped name ++ codes "\"")
