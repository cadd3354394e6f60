use Rattle.std.proofs.Common.{ap, ◌∙◌, [], ◌∷◌, ◌++◌}
use Rattle.hub.specs.Batches.{Batched, events_in}
use Rattle.hub.specs.Copied.{Brought}
use Rattle.hub.specs.History.{Beginning, longer_by}
use Rattle.hub.proofs.Filling.{stored_all, stored_end}
use Rattle.hub.proofs.store.store_all.Goals as goal

pub returns-clause-stored : goal.returns-clause-stored
returns-clause-stored g c =
    let queue = c.args.queue.now.items in
    let front = c.args.front.now in
    let run = c.args.run in
    let later = c.push_back_reserved.new.self.items in
    let all = c.add_all.new.front in
    stored_end queue later c.push_back_reserved-2.new.self.items front all
    (stored_all queue later front all (events_in run)
    (c.add_all.ensures.front
    ∙ ap (λ (b : Batched). longer_by front (events_in b)) c.batch.ensures)
    (c.push_back_reserved.ensures.items
    ∙ ap (λ (op : Brought). queue ++ op ∷ []) (c.batch-2.ensures
    ∙ ap (λ (b : Beginning). record { events = events_in run; at = b }) c.again.ensures)))
    (c.push_back_reserved-2.ensures.items
    ∙ ap (λ (op : Brought). later ++ op ∷ []) (c.end.ensures
    ∙ ap (λ (b : Beginning). record { events = []; at = b }) c.again-2.ensures))
