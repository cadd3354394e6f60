use Rattle.std.proofs.Common.{rules, ◌∙◌, ap}
use Rattle.std.specs.Net.Addr.{octets_of}
use Rattle.command_line.proofs.Addresses.{octets_back}
use Rattle.command_line.proofs.address.ipv6_of.Goals as goal

pub returns : goal.returns
returns c =
    ap octets_of c.from_octets.ensures ∙ octets_back 8 c.args.bytes (search rules) (search rules)
