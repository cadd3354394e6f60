use Rattle.std.proofs.Common.{sym, subst}
use Rattle.agg_types.specs.Whats.{as_what}
use Rattle.fleet_model.specs.Sound.{IsSound}
use Rattle.fleet_model.specs.State.{State}
use Rattle.book_machine.specs.Uses.{IsUseOf}
use Rattle.book.specs.Verdicts.{AreAll, Follows}
use Rattle.book_machine.proofs.Counting.{placed}
use Rattle.book.proofs.Updates.{follows_update, sound_update}
use Rattle.book.proofs.runs.take_one.Goals as goal

pub put_lent-requires-clause-placed : goal.put_lent-requires-clause-placed
put_lent-requires-clause-placed c =
    placed c.args.machine.now.config (as_what c.args.what) c.requires.update.fits

pub follow_update-requires-clause-sound : goal.follow_update-requires-clause-sound
follow_update-requires-clause-sound c =
    subst IsSound (sym c.in_ok-applied.ensures.ok)
    (sound_update c.args.machine.now c.args.turn.seat c.args.turn.peer (as_what c.args.what)
    c.requires.book.sound c.requires.update)

pub follow_update-requires-clause-found : goal.follow_update-requires-clause-found
follow_update-requires-clause-found c =
    subst (λ (s : State). IsUseOf s.config c.args.table_use.now) (sym c.in_ok-applied.ensures.ok)
    c.requires.found

pub returns-clause-flips : goal.returns-clause-flips
returns-clause-flips c =
    let state : State = c.args.machine.now in
    c.follow_update.ensures.flips state c.requires.book.sound
    (subst (Follows (as_what c.args.what) state) (sym c.in_ok-applied.ensures.ok)
    (follows_update state c.args.turn.seat c.args.turn.peer (as_what c.args.what)
    c.requires.book.sound c.requires.update))
    (subst (AreAll state) (sym c.prepare_update.ensures.filters) c.requires.book.held)

pub returns-clause-book : goal.returns-clause-book
returns-clause-book c =
    let state : State = c.args.machine.now in
    record {
      sound = subst IsSound (sym c.in_ok-applied.ensures.ok)
          (sound_update state c.args.turn.seat c.args.turn.peer (as_what c.args.what)
          c.requires.book.sound c.requires.update);
      held = c.follow_update.ensures.held state
          (subst (Follows (as_what c.args.what) state) (sym c.in_ok-applied.ensures.ok)
          (follows_update state c.args.turn.seat c.args.turn.peer (as_what c.args.what)
          c.requires.book.sound c.requires.update))
          (subst (AreAll state) (sym c.prepare_update.ensures.filters) c.requires.book.held);
    }
