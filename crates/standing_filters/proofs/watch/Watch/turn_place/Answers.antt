use Rattle.std.proofs.Common.{◌≡◌, Some, Option, refl, ap, sym, subst, ◌∙◌}
use Rattle.std.specs.Prelude.{unwrap_or}
use Rattle.std.proofs.lemmas.Option.{same_Some}
use Rattle.place_index.specs.Places.{key_at}
use Rattle.standing_filters.specs.Placed.{verdict_in}
use Rattle.standing_filters.specs.Plans.{Watching, kept_by}
use Rattle.standing_filters.specs.Verdicts.{IsVerdict, out}
use Rattle.standing_filters.specs.Watched.{verdict_at}
use Rattle.standing_filters.specs.declared.judging.Verdict.{Verdict}
use Rattle.standing_filters.proofs.Planning.{verdict_here}
use Rattle.standing_filters.proofs.Said.{noted_becomes}
use Rattle.standing_filters.proofs.Touched.{touched}
use Rattle.standing_filters.proofs.watch.Watch.turn_place.Goals as goal

pub returns-clause-touched : goal.returns-clause-touched
returns-clause-touched g c = λ key own.
    let summed = g.V.Values.summed c.args.values.now in
    let living = g.V.Values.living c.args.values.now in
    let w = c.args.self.now in
    let same : c.in-Some.key.now ≡ key = same_Some c.in-Some.key.now key
    (c.in-Some.ensures ∙ ap (λ (w : Watching). key_at w.places c.args.at) c.self.view_is ∙ own) in
    let judged : IsVerdict summed living w.filter c.args.t key c.judge-verdict.result =
    subst (λ k. IsVerdict summed living w.filter c.args.t k c.judge-verdict.result) same
    (subst (λ (w : Watching). IsVerdict summed living w.filter c.args.t c.in-Some.key.now
    c.judge-verdict.result) c.self.view_is c.judge-verdict.ensures.verdict) in
    touched summed living w.filter.table key c.args.t w c.put.new.self c.judge-verdict.result refl
    c.put.ensures.filter judged (c.put.ensures.becomes key own)

pub returns-clause-flips : goal.returns-clause-flips
returns-clause-flips g c = λ known.
    let w = c.args.self.now in
    let key = c.in-Some.key.now in
    let own : key_at w.places c.args.at ≡ Some key =
    ap (λ (w : Watching). key_at w.places c.args.at) (sym c.self.view_is) ∙ sym c.in-Some.ensures in
    let held : c.held_by.result ≡ (verdict_at (kept_by w) key).holds =
    c.held_by.ensures
    ∙ ap (λ (o : Option Verdict). (unwrap_or o out).holds) c.verdict.ensures
    ∙ ap (λ (w : Watching). (verdict_in w.places c.args.at).holds) c.self.view_is
    ∙ sym (ap (λ (v : Verdict). v.holds)
    (verdict_here w.places c.args.at key c.requires.watch.distinct own)) in
    noted_becomes c.args.place key c.judge-verdict.result c.held_by.result (kept_by w)
    (kept_by c.put.new.self) c.args.flips.now c.note.new.self (c.note.ensures known) held
    (c.put.ensures.becomes key own)
