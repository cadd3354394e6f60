-- For which hosts a request may be. A web page may ask its browser for any name that its owner
-- lets lead here, but not for an address, for `localhost` or for a name of this collector.
use Rattle.std.specs.Prelude.{ℕ, ◌==◌, ◌&&◌, ◌||◌, Bool, true, false, List, [], ◌∷◌, codes, map}
use Rattle.std.specs.Prelude.{if◌then◌else◌, is_some}
use Rattle.std.specs.Char.{to_ascii_lowercase}
use Rattle.std.specs.List.{list_all, list_any}
use Rattle.std.specs.Str.{bytes_eq}
use Rattle.agg_types.specs.declared.config.KeyKind.TheVariants.{Ip, Ipv6}
use Rattle.key_text.specs.Read.{key_of}
use Rattle.line_words.specs.Numbers.{is_decimal}
use Rattle.line_words.specs.Words.{parts}

-- two names are one without regard to case
abbrev pub is_same_name : List ℕ → List ℕ → Bool
is_same_name name other = bytes_eq (map to_ascii_lowercase name) (map to_ascii_lowercase other)

-- `localhost`, or one of the names of this collector
abbrev pub is_name : List (List ℕ) → List ℕ → Bool
is_name names name =
    is_same_name name (codes "localhost") || list_any (is_same_name name) names

-- an address of IPv4, or a name
abbrev pub is_host : List (List ℕ) → List ℕ → Bool
is_host names host = is_name names host || is_some (key_of Ip host)

-- an address of IPv4 or a name stands alone, or before a colon and the digits of a port
abbrev pub is_plain : List (List ℕ) → List (List ℕ) → Bool
is_plain names (host ∷ []) = is_host names host
is_plain names (host ∷ port ∷ []) = list_all is_decimal port && is_host names host
is_plain names _ = false

-- nothing, or a colon and the digits of a port
abbrev pub is_port_behind : List ℕ → Bool
is_port_behind [] = true
is_port_behind (first ∷ port) = (first == 58) && list_all is_decimal port

-- an address of IPv6 stands before the only `]`, and behind that nothing or a port
abbrev pub is_bracketed : List (List ℕ) → Bool
is_bracketed (ip ∷ behind ∷ []) = is_port_behind behind && is_some (key_of Ipv6 ip)
is_bracketed _ = false

-- whether a request may be for this host, where the collector has these names
abbrev pub is_admitted : List (List ℕ) → List ℕ → Bool
is_admitted names [] = false
is_admitted names (first ∷ rest) =
    if first == 91 then is_bracketed (parts 93 rest) else is_plain names (parts 58 (first ∷ rest))
