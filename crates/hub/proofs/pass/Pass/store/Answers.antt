use Rattle.std.proofs.Common.{◌≡◌, length, sym, subst}
use Rattle.hub.specs.History.{own}
use Rattle.hub.specs.Posts.{Seated}
use Rattle.hub.proofs.Recalling.{recalls_all}
use Rattle.hub.proofs.pass.Pass.store.Goals as goal

pub store_all-requires-clause-recalled : goal.store_all-requires-clause-recalled
store_all-requires-clause-recalled g c =
    let front = c.args.front.now in
    let owns = subst (λ (p : Seated). length (own p.seat front.events) ≡ p.number)
    (sym c.self.view_is) c.requires.owns in
    recalls_all c.self.inside.sitting c.self.inside.stored front c.self.invariant.0
    c.if-not-compare.ensures.fleet.0 c.if-not-compare.ensures.order owns
