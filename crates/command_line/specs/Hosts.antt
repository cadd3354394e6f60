-- The names of hosts that words of the command line say.
use Rattle.std.specs.Prelude.{ℕ, ◌==◌, ◌&&◌, ◌||◌, Bool, nat_lt, List, length, Option, None, Some}
use Rattle.std.specs.Prelude.{if◌then◌else◌}
use Rattle.std.specs.Char.{is_ascii_alphanumeric}
use Rattle.std.specs.List.{list_all}

-- whether a byte may stand in a host's name: a letter, a digit, `-`, `.` or `_`
abbrev pub is_host_byte : ℕ → Bool
is_host_byte byte = is_ascii_alphanumeric byte || (byte == 45) || (byte == 46) || (byte == 95)

-- whether a text is a host's name: one or more such bytes
abbrev pub is_host_name : List ℕ → Bool
is_host_name text = nat_lt 0 (length text) && list_all is_host_byte text

-- the names that texts say, if each is one
abbrev pub hosts_of : List (List ℕ) → Option (List (List ℕ))
hosts_of texts = if list_all is_host_name texts then Some texts else None
