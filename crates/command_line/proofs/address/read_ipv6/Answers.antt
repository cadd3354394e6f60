use Rattle.std.proofs.Common.{rules, ◌≡◌, ◌∙◌, ap, Some, arith, length}
use Rattle.command_line.proofs.Addresses.{sixteen}
use Rattle.command_line.proofs.address.read_ipv6.Goals as goal

pub returns : goal.returns
returns c =
    let long : length c.as_slice.result.now ≡ 16 =
    omega (arith, c.in-len16.len_at_least, c.in-len16.len_below) in
    ap Some (c.ipv6_of.ensures ∙ sixteen c.as_slice.result.now long ∙ c.as_slice.ensures)
    ∙ (search rules)
