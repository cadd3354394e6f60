-- The addresses that words of the command line say.
use Rattle.std.specs.Prelude.{ℕ, ◌^◌, ◌==◌, if◌then◌else◌, nat_lt, List, [], ◌∷◌, length, Option}
use Rattle.std.specs.Prelude.{None, Some, Result, Ok, Err}
use Rattle.std.specs.Net.Addr.{ipv4_octets, ipv6_octets}
use Rattle.std.specs.Net.Socket.{v4_ip, v4_port, v6_flowinfo, v6_ip, v6_port, v6_scope_id}
use Rattle.std.specs.declared.net.socket_addr.SocketAddr.{SocketAddr}
use Rattle.std.specs.declared.net.socket_addr.SocketAddr.TheVariants.{V4, V6}
use Rattle.agg_types.specs.declared.config.KeyKind.TheVariants.{Ip, Ipv6}
use Rattle.key_text.specs.Read.{key_of}
use Rattle.line_words.specs.Numbers.{number_of}
use Rattle.line_words.specs.Words.{parts}
use Rattle.line_words.specs.declared.numbers.NumberFault.{NumberFault}

-- the bytes of an address, its port, and its flow label and scope, which no text says
abbrev pub Parts : Type 0
Parts = List ℕ × ℕ × ℕ × ℕ

abbrev pub parts_of : SocketAddr → Parts
parts_of (V4 address) = (ipv4_octets (v4_ip address), v4_port address, 0, 0)
parts_of (V6 address) =
    (ipv6_octets (v6_ip address), v6_port address, v6_flowinfo address, v6_scope_id address)

-- a number of 16 bits
abbrev pub if_port : Result ℕ NumberFault → Option ℕ
if_port (Ok number) = if nat_lt number (2 ^ 16) then Some number else None
if_port (Err fault) = None

-- a port: 1 to 5 digits, up to 65,535
abbrev pub port_of : List ℕ → Option ℕ
port_of text = if nat_lt 5 (length text) then None else if_port (number_of text)

-- an address at a port, where there are both
abbrev pub at_port : Option (List ℕ) → Option ℕ → Option Parts
at_port (Some ip) (Some port) = Some (ip, port, 0, 0)
at_port _ _ = None

-- an IPv4 as keys are written, and a port
abbrev pub address_from : List (List ℕ) → Option Parts
address_from (ip ∷ port ∷ []) = at_port (key_of Ip ip) (port_of port)
address_from _ = None

-- a colon, and a port
abbrev pub port_behind : List ℕ → Option ℕ
port_behind [] = None
port_behind (first ∷ port) = if first == 58 then port_of port else None

-- an IPv6 as keys are written, before the only `]`, and a colon and a port behind it
abbrev pub bracketed : List (List ℕ) → Option Parts
bracketed (ip ∷ port ∷ []) = at_port (key_of Ipv6 ip) (port_behind port)
bracketed _ = None

-- the address that a text says: an IPv6 behind `[`; or else two parts, with one colon between them
abbrev pub address_of : List ℕ → Option Parts
address_of [] = None
address_of (first ∷ rest) =
    if first == 91 then bracketed (parts 93 rest) else address_from (parts 58 (first ∷ rest))
