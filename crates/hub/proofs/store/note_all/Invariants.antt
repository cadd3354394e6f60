use Rattle.std.proofs.Common.{◌≡◌, drop}
use Rattle.hub.specs.Roll.{lasts_after}
use Rattle.hub.specs.Sitting.{all_opened_after}
use Rattle.hub.proofs.store.note_all.Given as goal

-- what stands from a place on is left
abbrev pub invariant-loop-place : goal.invariant-loop-place
invariant-loop-place l = record {
  roll : record l.roll { last = lasts_after l.roll.last l.batch.seat (drop l.place l.batch.whats) }
      ≡ record l.initial.roll
      { last = lasts_after l.initial.roll.last l.batch.seat l.batch.whats };
  sitting : record l.sitting
      { opened = all_opened_after l.sitting.opened (drop l.place l.batch.whats) }
      ≡ record l.initial.sitting
      { opened = all_opened_after l.initial.sitting.opened l.batch.whats };
}
