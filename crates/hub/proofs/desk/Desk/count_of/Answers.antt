use Rattle.std.proofs.Common.{◌≡◌, Some, length, sym, ap, ◌∙◌, subst}
use Rattle.hub.specs.History.{own}
use Rattle.hub.specs.Kept.{Kept}
use Rattle.hub.proofs.Counting.{found}
use Rattle.hub.proofs.Held.{owns_as_counted}
use Rattle.hub.proofs.desk.Desk.count_of.Goals as goal

pub returns-clause-owns : goal.returns-clause-owns
returns-clause-owns g c =
    let front = c.self.inside.front in
    let roll = c.self.inside.roll in
    let at : found c.args.pass.now.seat roll.seats ≡ Some c.in-Some.found =
    ap (λ s. found s roll.seats) (sym c.seat.ensures) ∙ sym c.in-Some.ensures in
    subst (λ (k : Kept). length (own c.args.pass.now.seat k.all.events) ≡ c.in-Some.found)
    c.self.view_is (owns_as_counted front roll c.args.pass.now.seat c.in-Some.found
    c.self.invariant.0.counted c.len-all.ensures.legal at)
