use Rattle.std.specs.Prelude.{Bool, ℕ, List, box_value, length, nat_le}
use Rattle.agg_types.specs.declared.key.Form.{Form}
use Rattle.agg_types.specs.declared.key.Form.TheVariants.{Short, Long}

-- the bytes of a key, wherever they lie
abbrev pub form_bytes : Form → List ℕ
form_bytes (Short key) = key
form_bytes (Long bytes) = box_value bytes

-- a key is so short that a copy of it takes no memory
abbrev pub is_short : List ℕ → Bool
is_short key = nat_le (length key) 16
