use Rattle.std.proofs.Common.{suc, inl, inr, arith}
use Rattle.crossing.proofs.Turning.{first_or_others, of_found}
use Rattle.crossing.proofs.change.+soonest.Goals as goal

pub returns-in-len1-up-clause-covers : goal.returns-in-len1-up-clause-covers
returns-in-len1-up-clause-covers g t c d since any differs =
    let value = g.F.Falls.value in
    elim (first_or_others value d c.args.rest.now c.part-item.result c.part-item.is
    (omega arith) any) [
      | inl turns ↦ elim (c.turns-first.ensures.turns d since turns) [
        | inl by ↦ c.soonest.ensures.kept (suc d) (c.sooner-found-in-len1-up.ensures.kept (suc d)
            (c.sooner-found.ensures.kept (suc d) by))
        | inr (inl first) ↦ c.soonest.ensures.kept (suc d)
            (c.sooner-found-in-len1-up.ensures.kept (suc d)
            (of_found _ _ (suc d) first c.sooner-found.ensures.turn (omega arith) differs))
        | inr (inr second) ↦ c.soonest.ensures.kept (suc d)
            (of_found _ _ (suc d) second c.sooner-found-in-len1-up.ensures.turn
            (omega arith) differs)
      ]
      | inr others ↦ c.soonest.ensures.covers d since others differs
    ]
