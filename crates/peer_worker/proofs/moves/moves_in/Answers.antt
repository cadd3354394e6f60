use Rattle.std.proofs.Common.{IfSome, map, subst}
use Rattle.peer_worker.specs.Gathering.{AreMoves, AreSince}
use Rattle.peer_worker.proofs.moves.moves_in.Goals as goal

pub returns : goal.returns
returns c =
    let seen = c.args.look.now.lens.now.seen in
    record {
      changes = map (λ change. change.now) c.in-Some.changes.items;
      since = subst (λ found. IfSome found (λ changes. AreSince c.args.table.now c.args.number seen
          (map (λ change. change.now) changes.items))) c.in-Some.is c.in_ok-changes.ensures;
      are = subst (λ changes. AreMoves c.in_ok-moves_of.field-0.items
          (map (λ change. change.now) changes)) c.as_slice.ensures.value c.in_ok-moves_of.ensures;
    }
