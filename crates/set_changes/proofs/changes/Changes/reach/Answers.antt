use Rattle.std.proofs.Common.{◌∙◌, ◌++◌, ◌∷◌, [], ap, sym, subst}
use Rattle.set_changes.specs.Noting.{AreKept}
use Rattle.set_changes.specs.Numbered.{Logged, Numbered, log_at}
use Rattle.set_changes.proofs.Kept.{kept_longer, same_longer}
use Rattle.set_changes.proofs.changes.Changes.reach.Goals as goal

pub loop-self-preserved : goal.loop-self-preserved
loop-self-preserved c =
    let before : Numbered = record {
      count = c.loop-self.self-inside.count;
      start = c.loop-self.self-inside.start;
      logs = c.loop-self.self-inside.logs.items;
    } in
    let is = c.in_ok-push.ensures.items
    ∙ ap (λ (log : Logged). before.logs ++ log ∷ []) c.new.ensures in
    record {
      count = c.loop-self.invariant.count;
      kept = subst (λ logs. AreKept (record before { logs = logs })) (sym is)
          (kept_longer before c.loop-self.invariant.kept);
      same = λ other. ap (λ logs. log_at (record before { logs = logs }) other) is
          ∙ (same_longer before other ∙ c.loop-self.invariant.same other);
    }
