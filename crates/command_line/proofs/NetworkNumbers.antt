-- Addresses as numbers.
use Rattle.std.proofs.Common.{◌≡◌, refl}
use Rattle.std.specs.Int.{w32, w128, from_be_bytes}
use Rattle.std.specs.Net.Addr.{ipv4_bits, ipv4_octets, ipv6_bits, ipv6_octets}
use Rattle.std.specs.declared.net.ipv4_addr.Ipv4Addr.{Ipv4Addr}
use Rattle.std.specs.declared.net.ipv6_addr.Ipv6Addr.{Ipv6Addr}

-- the number of an address is that of its bytes
pub ipv4_number : (ip : Ipv4Addr) → ipv4_bits ip ≡ from_be_bytes w32 (ipv4_octets ip)
unfolding ipv4_bits
ipv4_number ip = refl

pub ipv6_number : (ip : Ipv6Addr) → ipv6_bits ip ≡ from_be_bytes w128 (ipv6_octets ip)
unfolding ipv6_bits
ipv6_number ip = refl
