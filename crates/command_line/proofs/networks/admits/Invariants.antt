use Rattle.std.proofs.Common.{◌≡◌, drop}
use Rattle.std.specs.List.{list_any}
use Rattle.command_line.specs.Networks.{holds}
use Rattle.command_line.proofs.networks.admits.Given as goal

-- none so far holds it
abbrev pub invariant-loop-network : goal.invariant-loop-network
invariant-loop-network l = list_any (λ network. holds network l.address)
    (drop l.network-index l.networks)
    ≡ list_any (λ network. holds network l.address) l.networks
