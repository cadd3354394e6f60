-- The networks that words of the command line say, and which addresses they hold.
use Rattle.std.specs.Prelude.{ℕ, ◌+◌, ◌*◌, ◌-◌, ◌/◌, ◌^◌, ◌==◌, Bool, if◌then◌else◌, is_some}
use Rattle.std.specs.Prelude.{nat_lt, List, [], ◌∷◌, length, position, Option, None, Some, Result}
use Rattle.std.specs.Prelude.{Ok, Err}
use Rattle.std.specs.Int.{w32, w128, from_be_bytes}
use Rattle.std.specs.Net.Addr.{ipv4_bits, ipv6_bits}
use Rattle.std.specs.Option.{option_map}
use Rattle.std.specs.declared.net.ip_addr.IpAddr.{IpAddr}
use Rattle.std.specs.declared.net.ip_addr.IpAddr.TheVariants as address
use Rattle.agg_types.specs.declared.config.KeyKind.TheVariants.{Ip, Ipv6}
use Rattle.key_text.specs.Read.{key_of}
use Rattle.line_words.specs.Numbers.{number_of}
use Rattle.line_words.specs.Words.{parts}
use Rattle.line_words.specs.declared.numbers.NumberFault.{NumberFault}
use Rattle.command_line.specs.declared.network.Network.{Network}
use Rattle.command_line.specs.declared.networks.Family.{Family}
use Rattle.command_line.specs.declared.networks.Family.TheVariants.{V4, V6}

-- the IPv6 that stands for an IPv4, `::ffff:a.b.c.d`, both as numbers
abbrev pub mapped : ℕ → ℕ
mapped ip = 0xffff * 2 ^ 32 + ip

-- an address as a number of 128 bits: an IPv4 is the IPv6 that stands for it
abbrev pub address_number : IpAddr → ℕ
address_number (address.V4 ip) = mapped (ipv4_bits ip)
address_number (address.V6 ip) = ipv6_bits ip

-- the first bits of an address, as a number: what is left of it without the others of its 128
abbrev pub first_bits : ℕ → ℕ → ℕ
first_bits bits number = number / 2 ^ (128 - bits)

-- whether an address is in a network: it begins with the same bits
abbrev pub holds : Network → IpAddr → Bool
holds network address =
    first_bits network.bits (address_number address) == first_bits network.bits network.number

-- an address of a network as a number, and how many bits count
abbrev pub network_parts : Network → ℕ × ℕ
network_parts network = (network.number, network.bits)

-- how an address is written: an IPv6 has a colon
abbrev pub family_of : List ℕ → Family
family_of ip = if is_some (position (λ byte. byte == 58) ip) then V6 else V4

-- the bits of an address
abbrev pub bits_in : Family → ℕ
bits_in V4 = 32
bits_in V6 = 128

-- the bits that stand before it
abbrev pub front_bits : Family → ℕ
front_bits V4 = 96
front_bits V6 = 0

-- the most digits of a number of bits
abbrev pub digits_in : Family → ℕ
digits_in V4 = 2
digits_in V6 = 3

-- the number of an address as keys are written
abbrev pub number_in : Family → List ℕ → Option ℕ
number_in V4 ip = option_map (λ bytes. mapped (from_be_bytes w32 bytes)) (key_of Ip ip)
number_in V6 ip = option_map (from_be_bytes w128) (key_of Ipv6 ip)

-- a number up to this one
abbrev pub if_bits : ℕ → Result ℕ NumberFault → Option ℕ
if_bits most (Ok number) = if nat_lt most number then None else Some number
if_bits most (Err fault) = None

-- a number of bits: 1 to 2 or 3 digits, up to those of an address
abbrev pub bits_of : Family → List ℕ → Option ℕ
bits_of family text =
    if nat_lt (digits_in family) (length text) then None
    else if_bits (bits_in family) (number_of text)

-- the number of bits that stands behind the only slash; all where there is none
abbrev pub last_bits : Family → List (List ℕ) → Option ℕ
last_bits family [] = Some (bits_in family)
last_bits family (bits ∷ []) = bits_of family bits
last_bits family _ = None

-- both, where there are both; so many bits stand before the others
abbrev pub behind_front : ℕ → Option ℕ → Option ℕ → Option (ℕ × ℕ)
behind_front front (Some number) (Some bits) = Some (number, front + bits)
behind_front front _ _ = None

-- an address, and the number of bits behind the slash
abbrev pub network_in : Family → List ℕ → List (List ℕ) → Option (ℕ × ℕ)
network_in family ip behind =
    behind_front (front_bits family) (number_in family ip) (last_bits family behind)

-- an IPv4 or an IPv6, and the number of bits
abbrev pub network_from : List (List ℕ) → Option (ℕ × ℕ)
network_from [] = None
network_from (ip ∷ behind) = network_in (family_of ip) ip behind

-- the network that a text says
abbrev pub network_of : List ℕ → Option (ℕ × ℕ)
network_of text = network_from (parts 47 text)

-- a network before others, if there are both
abbrev pub before : Option (ℕ × ℕ) → Option (List (ℕ × ℕ)) → Option (List (ℕ × ℕ))
before (Some first) (Some others) = Some (first ∷ others)
before _ _ = None

-- the networks that texts say, if each says one
abbrev pub networks_of : List (List ℕ) → Option (List (ℕ × ℕ))
networks_of [] = Some []
networks_of (text ∷ texts) = before (network_of text) (networks_of texts)
