use Rattle.std.proofs.Common.{ℕ, sym, subst}
use Rattle.set_changes.specs.Noting.{IsKept}
use Rattle.set_changes.proofs.Kept.{kept_fewer}
use Rattle.set_changes.proofs.log.Log.trim.Goals as goal

pub returns-in-Some-clause-kept : goal.returns-in-Some-clause-kept
returns-in-Some-clause-kept c =
    subst (λ (from : ℕ). IsKept c.args.number
    (record { from = from; changes = c.pop_front.new.self.items }))
    (sym c.max-self-inside.ensures)
    (kept_fewer c.args.number
    (record { from = c.self.inside.from; changes = c.self.inside.changes.items }) c.in-Some.gone
    c.pop_front.new.self.items c.in-Some.ensures.items
    (subst (IsKept c.args.number) (sym c.self.view_is) c.requires))
