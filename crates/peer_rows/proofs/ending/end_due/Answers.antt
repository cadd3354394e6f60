use Rattle.std.proofs.Common.{refl, subst, inl, inr, sym, ◌∙◌}
use Rattle.std.proofs.lemmas.Bool.{true≢false}
use Rattle.place_plans.specs.Plans.{plan_at}
use Rattle.peer_rows.specs.Ends.{IsPlanned, rows_at}
use Rattle.peer_rows.proofs.Living.{all_live, live_or_due}
use Rattle.peer_rows.proofs.ending.end_due.Goals as goal

pub loop-at-init : goal.loop-at-init
loop-at-init c = record {
  kept = c.requires.kept;
  peers = refl;
  rows = refl;
  planned = c.requires.planned;
  due = λ p. live_or_due c.args.t (rows_at c.args.keys.now.places p)
      (plan_at c.args.ends.now.plans p)
      (subst (λ b. IsPlanned b (rows_at c.args.keys.now.places p) (plan_at c.args.ends.now.plans p))
      c.requires.seen (c.requires.planned p));
}

pub returns-clause-rows : goal.returns-clause-rows
returns-clause-rows c =
    all_live c.args.t c.args.keys.now.places c.loop-at.keys.places c.loop-at.invariant.rows
    (λ p. elim (c.loop-at.invariant.due p) [
      | inl live ↦ live
      | inr due ↦ absurd (true≢false (sym due ∙ c.in_default.ensures.none p))
    ])
