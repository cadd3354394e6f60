use Rattle.std.proofs.Common.{◌∙◌, ap, refl, sym}
use Rattle.session_core.specs.Tracked.{Tracked}
use Rattle.session_core.proofs.PieceLemmas.{settled_twice}
use Rattle.session_core.proofs.UndoLemmas.{restored}
use Rattle.session_core.proofs.stage.answer.Goals as goal

pub returns-in-Ok-clause-settled : goal.returns-in-Ok-clause-settled
returns-in-Ok-clause-settled c =
    rw (c.keep_room.ensures, c.clear_updated.ensures) (settled_twice _)

pub returns-in-Err-clause-err : goal.returns-in-Err-clause-err
returns-in-Err-clause-err c =
    let same = c.take_room-changes.ensures.same in
    let now = c.current-current.ensures ∙ ap (λ (t : Tracked). t.current) (sym same) in
    let back = restored c.take_room-changes.new.self c.say.new.track c.take_back.new.self
    c.take_room-changes.result.items c.say.new.changes.items c.current-current.result
    c.take_room-changes.ensures.none c.say.ensures.undo now c.take_back.ensures ∙ same in
    rw back refl

pub returns-in-Err-clause-settled : goal.returns-in-Err-clause-settled
returns-in-Err-clause-settled c =
    let same = c.take_room-changes.ensures.same in
    let now = c.current-current.ensures ∙ ap (λ (t : Tracked). t.current) (sym same) in
    let back = restored c.take_room-changes.new.self c.say.new.track c.take_back.new.self
    c.take_room-changes.result.items c.say.new.changes.items c.current-current.result
    c.take_room-changes.ensures.none c.say.ensures.undo now c.take_back.ensures ∙ same in
    rw back c.requires
