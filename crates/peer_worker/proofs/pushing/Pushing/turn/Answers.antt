use Rattle.std.proofs.Common.{◌≡◌, ◌∙◌, List, MatchOption, Option}
use Rattle.std.proofs.Common.{Some, inr, refl, subst, sym}
use Rattle.pushed_keys.specs.declared.pushed.Pushed.{Pushed}
use Rattle.telling.specs.Telling.{AreOrdered}
use Rattle.hub.specs.Views.{Seeing}
use Rattle.peer_worker.specs.Knowing.{Knows, Pushing}
use Rattle.peer_worker.specs.Tellings.{Brings, TurnsTo}
use Rattle.peer_worker.proofs.Moving.{knows_on, turns_over}
use Rattle.peer_worker.proofs.pushing.Pushing.turn.Goals as goal

pub begin-begun-requires : goal.begin-begun-requires
begin-begun-requires c =
    let inside = c.self.inside in
    let lens = c.in-Some.lens in
    let had : inside.lens ≡ Some lens = sym c.take.ensures.value ∙ c.in-Some.is in
    let known = subst (λ (l : Option Seeing). MatchOption l
    (AreOrdered inside.pushed inside.teller)
    (λ lens. Knows inside.pushed inside.teller inside.told lens.seen)) had c.self.invariant in
    subst (λ (p : List Pushed). Knows p inside.teller inside.told c.show_last.new.lens.seen)
    (sym c.as_slice-pushed.ensures)
    (knows_on inside.pushed inside.teller inside.told lens.seen c.show_last.new.lens.seen
    c.show_last.ensures.kept known)

pub returns-in-Some-begun-clause-turns : goal.returns-in-Some-begun-clause-turns
returns-in-Some-begun-clause-turns c =
    let inside = c.self.inside in
    let lens = c.in-Some.lens in
    let later = c.begin-begun.new.lens in
    let had : inside.lens ≡ Some lens = sym c.take.ensures.value ∙ c.in-Some.is in
    let old : Pushing = record {
      pushed = inside.pushed;
      teller = inside.teller;
      lens = inside.lens;
      unsaid = inside.unsaid;
    } in
    let new : Pushing = record {
      pushed = inside.pushed;
      teller = c.begin-begun.new.teller;
      lens = Some later;
      unsaid = c.in-Some-begun.unsaid;
    } in
    let brings = subst (λ (p : List Pushed). Brings p inside.teller c.begin-begun.new.teller
    later.seen c.in-Some-begun.unsaid) c.as_slice-pushed.ensures c.in-Some-begun.ensures.says in
    subst (λ (o : Pushing). TurnsTo o new c.args.poster.now) c.self.view_is
    (inr (turns_over old new c.args.poster.now lens c.show_last.new.lens later
    (c.if-not-is_done.ensures.done refl inside.pushed) had refl c.show_last.ensures.kept
    c.show_last.ensures.holds c.begin-begun.ensures.lens brings))
