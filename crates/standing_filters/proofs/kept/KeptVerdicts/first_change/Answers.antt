use Rattle.std.proofs.Common.{◌+◌, ◌∙◌, ap, sym, subst, arith}
use Rattle.standing_filters.specs.Placed.{change_in, earlier_of}
use Rattle.standing_filters.proofs.Planning.{IsFirstBelow, first_all, first_none, first_step}
use Rattle.standing_filters.proofs.Planning.{no_change}
use Rattle.standing_filters.proofs.kept.KeptVerdicts.first_change.Goals as goal

pub loop-at-init : goal.loop-at-init
loop-at-init c = first_none (change_in c.args.self.now.places)

pub loop-at-preserved : goal.loop-at-preserved
loop-at-preserved c =
    subst (λ first. IsFirstBelow (change_in c.args.self.now.places) (c.loop-at.at + 1) first)
    (ap (earlier_of c.loop-at.first) (sym c.change_at.ensures) ∙ sym c.earlier-first.ensures)
    (first_step (change_in c.args.self.now.places) c.loop-at.at c.loop-at.first c.loop-at.invariant)

pub returns : goal.returns
returns c = first_all
    (change_in c.args.self.now.places) c.loop-at.at c.loop-at.first c.loop-at.invariant
    (λ p past. no_change c.args.self.now.places p (omega arith))
