use Rattle.std.proofs.Common.{List, [], ◌∷◌, ◌++◌, subst, ◌∙◌}
use Rattle.agg_types.specs.declared.event.What.{What}
use Rattle.admin_worker.proofs.Commanded.{learned_more}
use Rattle.worker_frame.specs.Told.{HasTold}
use Rattle.admin_worker.proofs.obeying.post_change.Goals as goal

pub returns-clause-changes : goal.returns-clause-changes
returns-clause-changes g c =
    λ since seat whats learned.
    let hub = c.args.context.now.hub.now in
    let told : HasTold hub c.post.new.self (whats ++ c.args.what ∷ []) 0 =
    subst (λ (batch : List What). HasTold hub c.post.new.self (whats ++ batch) 0) c.in-Ok.ensures
    (c.in_ok-post.ensures.told whats learned.told) in
    learned_more hub since seat c.args.worker.now _ (whats ++ c.args.what ∷ []) (c.post.ensures.seat
    ∙ learned.at) learned.sees c.show.ensures.kept told c.show.ensures.learned
