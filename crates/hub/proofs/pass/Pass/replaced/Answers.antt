use Rattle.std.proofs.Common.{Some, None, arith, sym, ap, ◌∙◌, take}
use Rattle.std.proofs.lemmas.Option.{get_or_from_slice_get}
use Rattle.agg_types.specs.Whats.{as_what}
use Rattle.hub.specs.Posts.{Seated}
use Rattle.hub.proofs.Replacing.{found_at, none_more, told_at}
use Rattle.hub.proofs.pass.Pass.replaced.Goals as goal

pub returns-in-Some : goal.returns-in-Some
returns-in-Some g c =
    let p = c.args.self.now in
    let whats = c.args.whats.now in
    let place = c.loop-place.place in
    let what = as_what c.at-what.result in
    let at = sym (get_or_from_slice_get whats place what what c.at-what.ensures.get) in
    let seat = ap (λ (p : Seated). p.seat) (sym c.self.view_is) in
    let number = ap (λ (p : Seated). p.number) (sym c.self.view_is) in
    let tells = told_at c.self.inside.sitting c.args.roll.now p c.self.inside.stored
    c.args.front.now seat number c.self.invariant.0 c.if-not-compare.ensures.fleet.0
    c.if-not-compare.ensures.order
    c.requires.owns c.requires.counted (take place whats) what (Some c.in-Some.by) (sym c.in-Some.is
    ∙ c.replacer_at.ensures) in
    found_at p c.args.front.now.events whats place what c.in-Some.by
    (omega (arith, c.loop-place-test.true, c.len-place-end.ensures.count)) at tells

pub loop-place-preserved : goal.loop-place-preserved
loop-place-preserved g c =
    let p = c.args.self.now in
    let whats = c.args.whats.now in
    let place = c.loop-place.place in
    let what = as_what c.at-what.result in
    let at = sym (get_or_from_slice_get whats place what what c.at-what.ensures.get) in
    let seat = ap (λ (p : Seated). p.seat) (sym c.self.view_is) in
    let number = ap (λ (p : Seated). p.number) (sym c.self.view_is) in
    let tells = told_at c.self.inside.sitting c.args.roll.now p c.self.inside.stored
    c.args.front.now seat number c.self.invariant.0 c.if-not-compare.ensures.fleet.0
    c.if-not-compare.ensures.order
    c.requires.owns c.requires.counted (take place whats) what None (sym c.in_default.is
    ∙ c.replacer_at.ensures) in
    none_more p c.args.front.now.events whats place what c.loop-place.invariant at tells
