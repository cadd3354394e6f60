use Rattle.std.proofs.Common.{length, sym, subst, ◌≤◌, ◌∙◌, ◌-◌, ◌≡◌, arith}
use Rattle.hub.specs.Batches.{Batched, part_of}
use Rattle.hub.proofs.Told.{moved_on}
use Rattle.hub.proofs.Trailing.{length-part, noted_as}
use Rattle.hub.proofs.copies.Shown.take_batch.Goals as goal

pub invariant_of-self-then-done-len-2 : goal.invariant_of-self-then-done-len-2
invariant_of-self-then-done-len-2 c =
    let b = c.args.run.now in
    let to = c.apply-done.result in
    let on = c.apply-done.ensures in
    let all : to - 0 ≡ to = omega arith in
    let moved = moved_on c.self.inside.book c.apply-done.new.book c.self.inside.trail
    c.add_part.new.self c.self.inside.changes c.note_changes.new.changes (part_of b 0 to)
    c.begin_flips.new.flips c.apply-done.new.flips to c.self.invariant.1 c.self.invariant.2
    on.applied.applied
    (noted_as c.self.inside.trail c.add_part.new.self c.batch.result.now b 0 to c.batch.ensures
    c.add_part.ensures) c.begin_flips.ensures on.flips
    (length-part b 0 to c.self.inside.book c.apply-done.new.book on.applied on.within ∙ all)
    c.note_changes.ensures in (
      subst (λ (b : Batched). to ≤ length b.whats) (sym c.in-Some.ensures) on.within,
      moved.0,
      moved.1,
    )

pub invariant_of-self-else-done-len : goal.invariant_of-self-else-done-len
invariant_of-self-else-done-len c =
    let b = c.args.run.now in
    let to = c.apply-done.result in
    let on = c.apply-done.ensures in
    let all : to - 0 ≡ to = omega arith in
    let moved = moved_on c.self.inside.book c.apply-done.new.book c.self.inside.trail
    c.add_part.new.self c.self.inside.changes c.note_changes.new.changes (part_of b 0 to)
    c.begin_flips.new.flips c.apply-done.new.flips to c.self.invariant.1 c.self.invariant.2
    on.applied.applied
    (noted_as c.self.inside.trail c.add_part.new.self c.batch.result.now b 0 to c.batch.ensures
    c.add_part.ensures) c.begin_flips.ensures on.flips
    (length-part b 0 to c.self.inside.book c.apply-done.new.book on.applied on.within ∙ all)
    c.note_changes.ensures in
    (c.self.invariant.0, moved.0, moved.1)
