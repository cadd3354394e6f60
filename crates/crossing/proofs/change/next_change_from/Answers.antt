use Rattle.std.proofs.Common.{inl, inr}
use Rattle.crossing.specs.Parts.{all_hold}
use Rattle.crossing.proofs.Turning.{is_first_change, turn_or_same}
use Rattle.crossing.proofs.change.next_change_from.Goals as goal

pub returns-clause-next : goal.returns-clause-next
returns-clause-next g c =
    let value = g.F.Falls.value in
    is_first_change (all_hold value c.args.parts.now) c.args.now c.soonest.result
    (λ d since. elim (turn_or_same value d c.args.parts.now) [
      | inl any ↦ inr (c.soonest.ensures.covers d since any)
      | inr same ↦ inl same
    ])
    c.soonest.ensures.differs
