use Rattle.std.proofs.Common.{◌≡◌, ◌++◌, codes, drop}
use Rattle.std.specs.List.{flat_map}
use Rattle.config_text.specs.Spaced.{named_line}
use Rattle.config_text.proofs.lines.append_peers.Given as goal

-- what is written and what is left to write are all
abbrev pub invariant-loop-peer : goal.invariant-loop-peer
invariant-loop-peer l =
    l.out.items ++ flat_map (named_line (codes "peer")) (drop l.peer-index l.peers)
    ≡ l.fn.out.items ++ flat_map (named_line (codes "peer")) l.peers
