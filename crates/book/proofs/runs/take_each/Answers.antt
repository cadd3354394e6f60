use Rattle.std.proofs.Common.{refl, sym, ap, subst, ◌∙◌, ◌≡◌, ◌+◌, ◌<◌, length, arith, ℕ}
use Rattle.std.proofs.Common.{List}
use Rattle.agg_types.specs.Whats.{as_what}
use Rattle.agg_types.specs.declared.event.What.{What}
use Rattle.fleet_model.specs.Machine.{session_of}
use Rattle.fleet_model.specs.State.{State}
use Rattle.book.specs.Flips.{TellsStepIfKnown}
use Rattle.book.specs.Runs.{IsPartApplied}
use Rattle.book_machine.specs.Turns.{IsUpdateOf, counted_to, with_update}
use Rattle.book_machine.specs.Uses.{IsUseOf}
use Rattle.book.proofs.ToldRuns.{told_none, told_update}
use Rattle.book.proofs.Updates.{part_none, turn_counted, update_more}
use Rattle.book.proofs.runs.take_each.Goals as goal

pub updates-init : goal.updates-init
updates-init c =
    let turn = c.args.turn in
    record {
      onwards = omega arith;
      within = c.requires.from_in;
      session = c.requires.turn.session;
      seats = refl;
      found = c.use_of-table_use.ensures.found;
      book = c.requires.book;
      applied = part_none turn.seat c.args.first c.args.from c.args.whats.now c.args.machine.now
          (counted_to c.args.machine.now turn.seat (c.args.first + c.args.from))
          (turn_counted c.args.machine.now turn.seat (c.args.first + c.args.from) turn.peer
          turn.session c.requires.book.sound c.requires.turn);
      flips = told_none turn.seat c.args.first c.args.from c.args.whats.now c.args.machine.now
          c.args.flips.now c.requires.from_in;
    }

pub updates-preserved : goal.updates-preserved
updates-preserved c =
    let turn = c.args.turn in
    let first : ℕ = c.args.first in
    let place : ℕ = c.updates.place in
    let whats : List What = c.args.whats.now in
    let state : State = c.updates.machine in
    let what : What = as_what c.at-what.result in
    let there : c.updates.place < length c.args.whats.now = omega arith in
    let update : IsUpdateOf c.updates.machine.config c.args.turn.peer (as_what c.at-what.result) =
    c.in-Some.ensures.update in
    let turned : c.take_one-taken.new.machine
    ≡ with_update c.updates.machine c.args.turn.seat (as_what c.at-what.result) =
    c.in-Ok.ensures.ok in
    record {
      onwards = let before = c.updates.invariant.onwards in omega arith;
      within = omega arith;
      session = c.updates.invariant.session
          ∙ sym (ap (λ (s : State). session_of s turn.peer) turned);
      seats = ap (λ (s : State). s.seats) turned ∙ c.updates.invariant.seats;
      found = subst (λ (s : State). IsUseOf s.config c.use_after.new.last) (sym turned)
          c.use_after.ensures.found;
      book = c.in-Ok.ensures.book;
      applied = subst (λ (s : State). IsPartApplied turn.seat first whats c.args.from (place + 1)
          c.args.machine.now (counted_to s turn.seat (first + (place + 1)))) (sym turned)
          (update_more turn.seat first c.args.from place turn.peer whats what c.args.machine.now
          state c.updates.invariant.book.sound update
          (let small = c.requires.small in omega arith) c.updates.invariant.applied
          c.at-what.ensures.left);
      flips = told_update turn.seat first c.args.from place turn.peer whats what c.args.machine.now
          state c.args.flips.now c.updates.flips c.take_one-taken.new.flips
          c.updates.invariant.book.sound update (let small = c.requires.small in omega arith)
          c.updates.invariant.onwards there c.updates.invariant.applied
          c.at-what.ensures.left c.updates.invariant.flips
          (subst (λ (s : State). TellsStepIfKnown state s c.updates.flips
          c.take_one-taken.new.flips) turned c.in-Ok.ensures.flips);
    }
