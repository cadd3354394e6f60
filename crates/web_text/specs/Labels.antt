-- Values of labels in Prometheus's text format.
use Rattle.std.specs.Prelude.{ℕ, ◌==◌, if◌then◌else◌, List, [], ◌∷◌}
use Rattle.std.specs.List.{flat_map}

-- a backslash, a quote and a line break are written as two bytes
abbrev pub label_byte : ℕ → List ℕ
label_byte byte =
    if byte == 92 then 92 ∷ 92 ∷ []
    else if byte == 34 then 92 ∷ 34 ∷ []
    else if byte == 10 then 92 ∷ 110 ∷ []
    else byte ∷ []

abbrev pub label_text : List ℕ → List ℕ
label_text value = flat_map label_byte value
