use Rattle.std.proofs.Common.{[], ◌∷◌, refl}
use Rattle.hub.proofs.Told.{moved_on}
use Rattle.hub.proofs.copies.Shown.take_event.Goals as goal

pub invariant_of-self-2 : goal.invariant_of-self-2
invariant_of-self-2 c =
    let on = c.in_ok-step_telling.ensures in
    let moved = moved_on c.self.inside.book c.step_telling.new.self c.self.inside.trail
    c.add.new.self c.self.inside.changes c.note_changes.new.changes (c.args.event.now ∷ [])
    c.begin_flips.new.flips c.step_telling.new.flips 1 c.self.invariant.1 c.self.invariant.2 on.ok
    c.add.ensures c.begin_flips.ensures on.flips refl c.note_changes.ensures in
    (c.self.invariant.0, moved.0, moved.1)
