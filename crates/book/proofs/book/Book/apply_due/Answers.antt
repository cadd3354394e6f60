use Rattle.std.proofs.Common.{◌≡◌, ◌∙◌, true, [], ◌∷◌, sym, ap, subst}
use Rattle.agg_types.specs.Whats.{as_what}
use Rattle.agg_types.specs.declared.event.Event.{Event}
use Rattle.fleet_model.specs.Machine.{after, counts_now, event_of}
use Rattle.fleet_model.specs.Sound.{IsSound}
use Rattle.fleet_model.specs.State.{State}
use Rattle.book.specs.Flips.{TellsAllIfKnown}
use Rattle.book.specs.Reads.{IsFewFor, IsQuietTo}
use Rattle.book.specs.Verdicts.{Follows}
use Rattle.book.proofs.Following.{follows}
use Rattle.book.proofs.Prepared.{room_kept}
use Rattle.book.proofs.ToldAll.{tells_one}
use Rattle.book.proofs.book.Book.apply_due.Goals as goal

-- what an event that counts leaves, of a state by its view
leaves : (state shown later : State) (e : Event) → state ≡ shown → counts_now shown e ≡ true
    → IsSound state → later ≡ after state e → Follows e.what state later
leaves state shown later e same counts sound turned =
    subst (Follows e.what state) (sym turned)
    (follows state e sound (ap (λ (s : State). counts_now s e) same ∙ counts))

pub follow-requires-clause-room : goal.follow-requires-clause-room
follow-requires-clause-room c =
    let state : State = c.self.inside.machine in
    let e : Event = event_of c.args.seat c.args.seq (as_what c.args.what) in
    room_kept (as_what c.args.what) state c.apply.new.self c.prepare.new.self.standing
    (leaves state c.args.self.now c.apply.new.self e c.self.view_is c.requires.counts
    c.self.invariant.sound c.in-Ok.ensures.ok) c.in_ok-prepare.ensures.room

pub invariant_of-self-2 : goal.invariant_of-self-2
invariant_of-self-2 c =
    let state : State = c.self.inside.machine in
    let e : Event = event_of c.args.seat c.args.seq (as_what c.args.what) in
    record {
      sound = subst IsSound (sym c.in-Ok.ensures.ok)
          (c.states_are_sound.ensures.kept state e c.self.invariant.sound);
      held = c.follow.ensures.held state c.self.invariant.sound
          (leaves state c.args.self.now c.apply.new.self e c.self.view_is c.requires.counts
          c.self.invariant.sound c.in-Ok.ensures.ok) c.leaving-leaving.ensures
          c.in-Ok.ensures.gone (c.in_ok-prepare.ensures.held c.self.invariant.held);
    }

pub returns-clause-quiet : goal.returns-clause-quiet
returns-clause-quiet c = λ told.
    let state : State = c.self.inside.machine in
    let e : Event = event_of c.args.seat c.args.seq (as_what c.args.what) in
    c.follow.ensures.quiet state c.self.invariant.sound
    (leaves state c.args.self.now c.apply.new.self e c.self.view_is c.requires.counts
    c.self.invariant.sound c.in-Ok.ensures.ok)
    (c.in_ok-prepare.ensures.held c.self.invariant.held) c.in_ok-prepare.ensures.few
    (subst (λ (s : State). IsQuietTo s (as_what c.args.what)) (sym c.self.view_is) told)

pub returns-clause-few : goal.returns-clause-few
returns-clause-few c =
    let state : State = c.self.inside.machine in
    let e : Event = event_of c.args.seat c.args.seq (as_what c.args.what) in
    subst (λ (s : State). IsFewFor s c.apply.new.self (as_what c.args.what)
    c.follow.new.meter.evals) c.self.view_is
    (c.follow.ensures.few state c.self.invariant.sound
    (leaves state c.args.self.now c.apply.new.self e c.self.view_is c.requires.counts
    c.self.invariant.sound c.in-Ok.ensures.ok)
    (c.in_ok-prepare.ensures.held c.self.invariant.held) c.in_ok-prepare.ensures.few)

pub returns-clause-flips : goal.returns-clause-flips
returns-clause-flips c =
    let state : State = c.self.inside.machine in
    let e : Event = event_of c.args.seat c.args.seq (as_what c.args.what) in
    subst (λ (s : State). TellsAllIfKnown s (e ∷ []) c.args.flips.now c.follow.new.flips)
    c.self.view_is
    (tells_one state c.apply.new.self e c.args.flips.now c.follow.new.flips c.in-Ok.ensures.ok
    (c.follow.ensures.flips state c.self.invariant.sound
    (leaves state c.args.self.now c.apply.new.self e c.self.view_is c.requires.counts
    c.self.invariant.sound c.in-Ok.ensures.ok)
    c.in-Ok.ensures.gone (c.in_ok-prepare.ensures.held c.self.invariant.held)))
