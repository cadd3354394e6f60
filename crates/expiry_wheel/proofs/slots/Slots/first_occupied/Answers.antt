use Rattle.std.proofs.Common.{◌≡◌, [], drop, MatchOption, subst}
use Rattle.expiry_wheel.specs.Slots.{entries_in, IsFirstOccupied}
use Rattle.expiry_wheel.proofs.Steps.{match_option}
use Rattle.expiry_wheel.proofs.Slotted.{none_held, first_held}
use Rattle.expiry_wheel.proofs.slots.Slots.first_occupied.Goals as goal

pub returns : goal.returns
returns g c =
    let i = c.self.inside in
    subst (λ slots. MatchOption c.first_from.result (entries_in (drop c.args.from slots) ≡ [])
    (IsFirstOccupied slots c.args.from)) c.self.view_is
    (match_option c.first_from.result c.first_from.ensures.none c.first_from.ensures.some
    (none_held i.marks.words i.each.items c.self.invariant c.args.from)
    (first_held i.marks.words i.each.items c.self.invariant c.args.from))
