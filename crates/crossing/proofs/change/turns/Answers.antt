use Rattle.std.proofs.Common.{suc, inl, inr, arith}
use Rattle.crossing.proofs.Turning.{turned_ge}
use Rattle.crossing.proofs.change.turns.Goals as goal

pub returns-in-Ge-clause-turns : goal.returns-in-Ge-clause-turns
returns-in-Ge-clause-turns g c d since turns =
    let drop = turned_ge _ _ _ _ c.in-Ge.is
    (g.met.F.Falls.never_rises c.args.part.now.fall d (suc d) (omega arith)) turns in
    elim (c.drop_above-first-in-Ge.ensures.drop d since
    (omega (arith, drop.0, c.from-bound.ensures)) (omega (arith, drop.1, c.from-bound.ensures))) [
      | inl by ↦ inl by
      | inr is ↦ inr (inl is)
    ]
