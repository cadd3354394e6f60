use Rattle.std.proofs.Common.{◌≡◌, ◌++◌, ◌∙◌, ap, drop, arith}
use Rattle.left_right.specs.Sides.{view}
use Rattle.hub.proofs.Held.{pressed_moved, pressed_whole}
use Rattle.hub.proofs.press.Press.publish.Goals as goal

pub invariant_of-press : goal.invariant_of-press
invariant_of-press g c =
    let old = c.self.inside.hand.writer in
    let new = c.hand_over.new.writer in
    let desk : new.desk ≡ old.desk =
    c.hand_over.ensures.desk ∙ ap (λ w. w.desk) c.open-writer.ensures in
    let kept : drop new.behind new.log.items ++ c.hand_over.new.queue.items
    ≡ drop old.behind old.log.items ++ c.self.inside.queue.items =
    c.hand_over.ensures.kept
    ∙ ap (λ w. drop w.behind w.log.items ++ c.self.inside.queue.items)
    c.open-writer.ensures in (
      pressed_moved g.J.Naming.book old.desk.shown.value.copied new.desk.shown.value.copied
          (view old.desk.place)
          (view new.desk.place) (drop old.behind old.log.items) (drop new.behind new.log.items)
          c.self.inside.queue.items c.hand_over.new.queue.items c.self.inside.taken
          c.self.invariant.0 (ap (λ d. d.shown.value.copied) desk)
          (ap (λ d. view d.place) desk) kept,
      omega (arith, c.hand_over.ensures.room, c.self.invariant.1),
    )

pub invariant_of-press-in-Ok : goal.invariant_of-press-in-Ok
invariant_of-press-in-Ok g c =
    let shown = rw c.in-Ok.is at c.show-writer.ensures in
    let new = c.show-writer.result.0 in (
      pressed_whole g.J.Naming.book new.desk.shown.value.copied (view new.desk.place)
          (drop new.behind new.log.items) c.hand_over.new.queue.items c.self.inside.taken
          c.self.invariant.0.named shown.0 shown.2 shown.1
          (c.hand_over.ensures.done c.if-not-hand_over.false),
      omega (arith, c.hand_over.ensures.room, c.self.invariant.1),
    )

pub invariant_of-press-in-Err : goal.invariant_of-press-in-Err
invariant_of-press-in-Err g c =
    let shown = rw c.in-Err.is at c.show-writer.ensures in
    let old = c.self.inside.hand.writer in
    let over = c.hand_over.new.writer in
    let new = c.show-writer.result.0 in
    let desk : over.desk ≡ old.desk =
    c.hand_over.ensures.desk ∙ ap (λ w. w.desk) c.open-writer.ensures in
    let kept : drop over.behind over.log.items ++ c.hand_over.new.queue.items
    ≡ drop old.behind old.log.items ++ c.self.inside.queue.items =
    c.hand_over.ensures.kept
    ∙ ap (λ w. drop w.behind w.log.items ++ c.self.inside.queue.items)
    c.open-writer.ensures in (
      pressed_moved g.J.Naming.book old.desk.shown.value.copied new.desk.shown.value.copied
          (view old.desk.place)
          (view new.desk.place) (drop old.behind old.log.items) (drop new.behind new.log.items)
          c.self.inside.queue.items c.hand_over.new.queue.items c.self.inside.taken
          c.self.invariant.0 (shown.0 ∙ ap (λ d. d.shown.value.copied) desk)
          (shown.2 ∙ ap (λ d. view d.place) desk)
          (ap (λ lacking. lacking ++ c.hand_over.new.queue.items) shown.1 ∙ kept),
      omega (arith, c.hand_over.ensures.room, c.self.invariant.1),
    )
