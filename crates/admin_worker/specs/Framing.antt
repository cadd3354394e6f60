-- Where a command ends.
use Rattle.std.specs.Prelude.{◌≡◌, ℕ, ◌==◌, ◌||◌, Bool, false, List}
use Rattle.std.specs.List.{list_any}

-- what ends a command: LF, or `;`
abbrev pub is_end : ℕ → Bool
is_end byte = byte == 10 || byte == 59

-- no end of a command is among the bytes
abbrev pub HasNoEnd : List ℕ → Type 0
HasNoEnd bytes = list_any is_end bytes ≡ false
