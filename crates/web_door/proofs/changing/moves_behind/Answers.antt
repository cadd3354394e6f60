use Rattle.std.proofs.Common.{IfSome, map, subst}
use Rattle.hub.specs.Changing.{SayBehind}
use Rattle.hub.specs.Trailed.{trail_to}
use Rattle.set_moves.specs.Moving.{AreMoved}
use Rattle.web_door.proofs.changing.moves_behind.Goals as goal

pub returns : goal.returns
returns c =
    let seen = c.args.look.now.lens.now.seen in
    record {
      changes = map (λ change. change.now) c.in-Some.changes.items;
      behind = subst (λ found. IfSome found (λ changes. SayBehind (trail_to seen) c.args.place
          c.args.since (map (λ change. change.now) changes.items))) c.in-Some.is
          c.in_ok-changes.ensures;
      moved = subst (λ changes. AreMoved (map (λ change. change.now) changes)
          c.in_ok-what_moved.field-0.entered.keys c.in_ok-what_moved.field-0.left.keys)
          c.as_slice.ensures.value c.in_ok-what_moved.ensures;
    }
