use Rattle.std.specs.Prelude.{ℕ, Bool, ◌&&◌, nat_le, List, length}
use Rattle.std.specs.List.{list_all}
use Rattle.agg_types.specs.declared.limits.TheConstants.{LONGEST_NAME}

-- whether a byte prints and isn't a space
abbrev pub is_printable : ℕ → Bool
is_printable byte = nat_le 33 byte && nat_le byte 126

-- whether bytes may be a name: 1 to 128 of them, each printable and no space
abbrev pub is_name : List ℕ → Bool
is_name bytes =
    nat_le 1 (length bytes) && nat_le (length bytes) LONGEST_NAME && list_all is_printable bytes
