use Rattle.std.proofs.Common.{◌≡◌, take}
use Rattle.haproxy_import.specs.Found.{others_than}
use Rattle.haproxy_import.proofs.found.others.Given as goal

abbrev pub invariant-loop-peer : goal.invariant-loop-peer
invariant-loop-peer l = l.others ≡ others_than l.me (take l.peer-index l.peers)
