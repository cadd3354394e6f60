use Rattle.std.proofs.Common.{IfSome, map, subst}
use Rattle.hub.specs.Changing.{SayBehind}
use Rattle.hub.specs.Trailed.{trail_to}
use Rattle.peer_worker.proofs.Moving.{named_in}
use Rattle.peer_worker.proofs.moves.changes_of.Goals as goal

pub returns : goal.returns
returns c =
    let seen = c.args.look.now.lens.now.seen in
    record {
      place = c.in-Some.place;
      named = named_in c.book.result.now seen c.place_in.result c.in-Some.place
          c.args.table.now.name c.book.ensures c.place_in.ensures c.in-Some.is;
      since = subst (λ found. IfSome found (λ changes. SayBehind (trail_to seen) c.in-Some.place
          c.args.number (map (λ change. change.now) changes.items))) c.in-Some-2.is
          c.in_ok-changes.ensures;
    }
