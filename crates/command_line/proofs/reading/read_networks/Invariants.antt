use Rattle.std.proofs.Common.{◌≡◌, drop, map}
use Rattle.command_line.specs.Networks.{network_parts, networks_of}
use Rattle.command_line.proofs.NetworkTexts.{with_front}
use Rattle.command_line.proofs.reading.read_networks.Given as goal

abbrev pub invariant-loop-text : goal.invariant-loop-text
invariant-loop-text l = with_front (map network_parts l.networks.items)
    (networks_of (map (λ text. text.now) (drop l.text-index l.texts)))
    ≡ networks_of (map (λ text. text.now) l.texts)
