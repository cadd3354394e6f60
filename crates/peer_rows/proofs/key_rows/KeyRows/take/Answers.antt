use Rattle.std.proofs.Common.{◌≢◌, ◌∷◌, []}
use Rattle.std.specs.Map.{keys_of}
use Rattle.peer_rows.specs.Peers.{ArePeers, held_by}
use Rattle.peer_rows.proofs.Peers.{are-taken}
use Rattle.peer_rows.proofs.key_rows.KeyRows.take.Goals as goal

pub invariant_of-self : goal.invariant_of-self
invariant_of-self c =
    let are : ArePeers (held_by c.self.inside.peers) = c.self.invariant.0 in
    let several : keys_of (held_by c.self.inside.peers) ≢ c.args.peer ∷ [] =
    rw (← c.self.view_is) at c.requires in (
      are-taken c.args.peer (held_by c.self.inside.peers) (held_by c.take_from.new.peers)
          are several c.take_from.ensures.after,
      c.take_from.ensures.summed,
    )

pub returns-clause-are : goal.returns-clause-are
returns-clause-are c = (invariant_of-self c).0
