use Rattle.std.proofs.Common.{IfSome, length, sym, subst, ◌≤◌, ◌∙◌, ◌-◌}
use Rattle.std.specs.Arc.{arc_value}
use Rattle.hub.specs.Batches.{Batched, part_of}
use Rattle.hub.specs.declared.copies.Rest.{Rest}
use Rattle.hub.proofs.Told.{moved_on}
use Rattle.hub.proofs.Trailing.{length-part, noted_as}
use Rattle.hub.proofs.copies.Shown.finish.Goals as goal

pub invariant_of-self-then-done-len : goal.invariant_of-self-then-done-len
invariant_of-self-then-done-len c =
    let b = c.deref.result.now in
    let from = c.in-Some.rest.done in
    let to = c.go_on-done.result in
    let on = c.go_on-done.ensures in
    let moved = moved_on c.self.inside.book c.go_on-done.new.book c.self.inside.trail
    c.add_part.new.self c.self.inside.changes c.note_changes.new.changes (part_of b from to)
    c.begin_flips.new.flips c.go_on-done.new.flips (to - from) c.self.invariant.1 c.self.invariant.2
    on.applied.applied
    (noted_as c.self.inside.trail c.add_part.new.self c.deref-2.result.now b from to
    (c.deref-2.ensures ∙ sym c.deref.ensures) c.add_part.ensures) c.begin_flips.ensures on.flips
    (length-part b from to c.self.inside.book c.go_on-done.new.book on.applied on.within)
    c.note_changes.ensures in (
      subst (λ o. IfSome o (λ (r : Rest). r.done ≤ length (arc_value r.batch).whats))
          (sym c.take.ensures.after) tt,
      moved.0,
      moved.1,
    )

pub invariant_of-self-2 : goal.invariant_of-self-2
invariant_of-self-2 c =
    let b = c.deref.result.now in
    let from = c.in-Some.rest.done in
    let to = c.go_on-done.result in
    let on = c.go_on-done.ensures in
    let moved = moved_on c.self.inside.book c.go_on-done.new.book c.self.inside.trail
    c.add_part.new.self c.self.inside.changes c.note_changes.new.changes (part_of b from to)
    c.begin_flips.new.flips c.go_on-done.new.flips (to - from) c.self.invariant.1 c.self.invariant.2
    on.applied.applied
    (noted_as c.self.inside.trail c.add_part.new.self c.deref-2.result.now b from to
    (c.deref-2.ensures ∙ sym c.deref.ensures) c.add_part.ensures) c.begin_flips.ensures on.flips
    (length-part b from to c.self.inside.book c.go_on-done.new.book on.applied on.within)
    c.note_changes.ensures in (
      subst (λ (b : Batched). to ≤ length b.whats) c.deref.ensures on.within,
      moved.0,
      moved.1,
    )
