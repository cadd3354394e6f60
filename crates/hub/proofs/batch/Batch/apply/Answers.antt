use Rattle.std.proofs.Common.{subst}
use Rattle.hub.specs.Batches.{Batched, IsApplied}
use Rattle.hub.proofs.Trailing.{applied_part}
use Rattle.hub.proofs.batch.Batch.apply.Goals as goal

pub returns-clause-applied : goal.returns-clause-applied
returns-clause-applied c =
    let from = c.args.from in
    let to = c.step_run.result in
    let old = c.args.book.now in
    let new = c.step_run.new.self in
    let b : Batched = record {
      seat = c.self.inside.seat;
      first = c.self.inside.first;
      whats = c.self.inside.whats;
    } in
    subst (λ (b : Batched). IsApplied b from to old new) c.self.view_is
    (applied_part b from to old new c.step_run.ensures.onwards c.step_run.ensures.within
    c.step_run.ensures.applied)
