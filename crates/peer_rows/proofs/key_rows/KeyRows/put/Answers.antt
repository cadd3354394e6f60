use Rattle.std.proofs.Common.{◌∙◌}
use Rattle.peer_rows.specs.Peers.{ArePeers, held_by}
use Rattle.peer_rows.proofs.Peers.{are-put}
use Rattle.peer_rows.proofs.key_rows.KeyRows.put.Goals as goal

pub grow-requires-clause-are : goal.grow-requires-clause-are
grow-requires-clause-are c =
    let are : ArePeers (held_by c.self.inside.peers) = c.self.invariant.0 in
    are-put c.args.peer (held_by c.self.inside.peers) (held_by c.put_into.new.peers) c.args.row
    are c.in_ok-old.ensures.ok

pub invariant_of-self-2 : goal.invariant_of-self-2
invariant_of-self-2 c =
    let are : ArePeers (held_by c.self.inside.peers) = c.self.invariant.0 in (
      are-put c.args.peer (held_by c.self.inside.peers) (held_by c.grow.new.peers) c.args.row are
          (c.grow.ensures.rows ∙ c.in_ok-old.ensures.ok),
      c.grow.ensures.summed,
    )

pub returns-clause-are : goal.returns-clause-are
returns-clause-are c = (invariant_of-self-2 c).0
