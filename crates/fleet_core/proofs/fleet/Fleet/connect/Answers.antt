use Rattle.std.proofs.Common.{sym, ap, true, false}
use Rattle.std.proofs.lemmas.Bool.{le-leb}
use Rattle.fleet_core.proofs.Answered.{at_no_memory, at_spent}
use Rattle.fleet_core.proofs.Counts.{not_le}
use Rattle.fleet_core.proofs.Steps.{connect_answers, connect_finds}
use Rattle.fleet_core.proofs.fleet.Fleet.connect.Goals as goal

pub returns-then-self-ge-LAST_SEAT : goal.returns-then-self-ge-LAST_SEAT
returns-then-self-ge-LAST_SEAT c = λ config opening past h.
    at_spent c.args.self.now config opening past _ h
    (connect_finds c.args.self.now config opening past true h
    (rw (sym (ap (λ f. f.connected) c.self.view_is))
    (le-leb _ _ c.if-self-ge-LAST_SEAT.true)))

pub returns-in-Ok : goal.returns-in-Ok
returns-in-Ok c = λ config opening past h.
    let done = c.in-Ok.ensures config opening past h in
    connect_answers c.args.self.now c.open_next.new.self config opening past _ c.silent.result
    (connect_finds c.args.self.now config opening past false h
    (rw (sym (ap (λ f. f.connected) c.self.view_is))
    (not_le _ _ c.if-self-ge-LAST_SEAT.false)))
    done.0 c.silent.ensures done.1

pub returns-in-Err : goal.returns-in-Err
returns-in-Err c = λ config opening past h.
    at_no_memory c.args.self.now c.open_next.new.self config opening past _
    (connect_finds c.args.self.now config opening past false h
    (rw (sym (ap (λ f. f.connected) c.self.view_is))
    (not_le _ _ c.if-self-ge-LAST_SEAT.false)))
    (c.in-Err.ensures config opening past h)
