use Rattle.std.proofs.Common.{◌≡◌, ◌∙◌, ◌&&◌, Bool, false, ℕ, sym, ap, subst, refl}
use Rattle.agg_types.specs.Whats.{as_what}
use Rattle.agg_types.specs.declared.event.Event.{Event}
use Rattle.fleet_model.specs.Machine.{counts_now, event_of}
use Rattle.fleet_model.specs.State.{State}
use Rattle.book_machine.specs.Dropped.{is_dropped, lacks_room}
use Rattle.book.specs.Reads.{IsFewFor}
use Rattle.book.proofs.FewReads.{few_none}
use Rattle.book.proofs.Following.{uncounted}
use Rattle.book.proofs.ToldAll.{same_told, tells_one}
use Rattle.book.proofs.book.Book.apply_telling.Goals as goal

not_dropped : (state : State) (e : Event) → counts_now state e ≡ false
    → is_dropped state e ≡ false
unfolding is_dropped
not_dropped state e none = ap (λ (b : Bool). b && lacks_room state e.seat e.what) none

pub returns-then-not-is_due-clause-ok : goal.returns-then-not-is_due-clause-ok
returns-then-not-is_due-clause-ok c =
    let e : Event = event_of c.args.seat c.args.seq (as_what c.args.what) in
    sym (uncounted c.args.self.now e (ap (λ (s : State). counts_now s e) (sym c.self.view_is)
    ∙ sym c.is_due.ensures.exact ∙ c.if-not-is_due.true))

pub returns-then-not-is_due-clause-dropped : goal.returns-then-not-is_due-clause-dropped
returns-then-not-is_due-clause-dropped c =
    let e : Event = event_of c.args.seat c.args.seq (as_what c.args.what) in
    c.unseen.ensures.dropped
    ∙ sym (not_dropped c.args.self.now e (ap (λ (s : State). counts_now s e) (sym c.self.view_is)
    ∙ sym c.is_due.ensures.exact ∙ c.if-not-is_due.true))

pub returns-then-not-is_due-clause-few : goal.returns-then-not-is_due-clause-few
returns-then-not-is_due-clause-few c =
    subst (λ (read : ℕ). IsFewFor c.args.self.now c.args.self.now (as_what c.args.what) read)
    (sym c.unseen.ensures.read) (few_none c.args.self.now c.args.self.now (as_what c.args.what))

pub returns-then-not-is_due-clause-flips : goal.returns-then-not-is_due-clause-flips
returns-then-not-is_due-clause-flips c =
    let e : Event = event_of c.args.seat c.args.seq (as_what c.args.what) in
    let state : State = c.args.self.now in
    tells_one state state e c.args.flips.now c.args.flips.now
    (sym (uncounted state e (ap (λ (s : State). counts_now s e) (sym c.self.view_is)
    ∙ sym c.is_due.ensures.exact ∙ c.if-not-is_due.true)))
    (same_told state state c.args.flips.now refl (λ filter key. refl))
