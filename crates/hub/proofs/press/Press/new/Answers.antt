use Rattle.std.proofs.Common.{◌≡◌, drop, ap, ◌∙◌, arith}
use Rattle.left_right.specs.Sides.{view}
use Rattle.hub.specs.Copied.{Copy, all_taken, whole}
use Rattle.hub.proofs.Held.{pressed_whole}
use Rattle.hub.proofs.Publishes.{begins, whole_is}
use Rattle.hub.proofs.press.Press.new.Goals as goal

pub new-requires-clause-rule : goal.new-requires-clause-rule
new-requires-clause-rule g c =
    let x = c.new-first.result in
    let made = c.new-first.ensures in
    let is : x.copied ≡ whole c.args.front = ap (λ (y : Copy). y.copied) made
    ∙ ap whole c.again.ensures in
    begins x (whole_is x.copied c.args.front is)

pub show-writer-requires-clause-brings : goal.show-writer-requires-clause-brings
show-writer-requires-clause-brings g c =
    let x = c.new-first.result in
    let made = c.new-first.ensures in
    let is : x.copied ≡ whole c.args.front = ap (λ (y : Copy). y.copied) made
    ∙ ap whole c.again.ensures in
    ap (all_taken c.in_ok-writer.writer.desk.shown.value.copied) c.in_ok-writer.ensures.1
    ∙ (ap (λ (y : Copy). y.copied) c.in_ok-writer.ensures.0 ∙ is)

pub invariant_of-result : goal.invariant_of-result
invariant_of-result g c =
    let h = rw c.in-Ok.is at c.show-writer.ensures in
    let writer = c.show-writer.result.0 in (
      pressed_whole g.J.Naming.book writer.desk.shown.value.copied (view writer.desk.place)
          (drop writer.behind writer.log.items) c.in_ok-queue.queue.items c.args.front
          c.requires.named h.0 h.2 h.1 c.in_ok-queue.ensures.items,
      omega (arith, c.in_ok-queue.ensures.capacity),
    )
