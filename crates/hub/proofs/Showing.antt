-- What a look shows of what was posted.
use Rattle.std.proofs.Common.{◌++◌, List, sym, ap, ◌∙◌}
use Rattle.agg_types.specs.declared.event.What.{What}
use Rattle.fleet_model.specs.State.{State}
use Rattle.hub.proofs.Fronts.{prefix_trans}
use Rattle.hub.specs.History.{Beginning}
use Rattle.hub.specs.Posts.{Follows, PostsAfter, Seated, ShowsBatch}
use Rattle.hub.specs.Shows.{HasBatch, ShowsPosted}
use Rattle.hub.specs.Views.{IsBookOf, Learns}

pub later_on : (a b c : Beginning) → Follows a b → Follows b c → Follows a c
later_on a b c p q = record {
  same = q.same ∙ ap (λ (x : Beginning). record x { events = c.events }) p.same;
  events = prefix_trans a.events b.events c.events p.events q.events;
}

-- a list that begins with the list of a receipt has its batch
pub has_batch : (p : Seated) (whats : List What) (receipt list : Beginning)
    → ShowsBatch p whats receipt → Follows receipt list → HasBatch p whats list
has_batch p whats receipt list shows follows =
    record {
      before = shows.before.events;
      later = follows.events.0;
      split = sym follows.events.1
          ∙ ap (λ (b : Beginning). b.events ++ follows.events.0) shows.posted;
      seen = shows.seen.events;
    }

pub shows_posted : (p p' : Seated) (whats : List What) (receipt seen told looked : Beginning)
    (book : State) → PostsAfter p p' whats receipt → Learns seen receipt told → Follows told looked
    → IsBookOf book looked → ShowsPosted seen receipt p whats book
shows_posted p p' whats receipt seen told looked book posts learns later is =
    let on : Follows receipt looked = later_on receipt told looked learns.learned later in record {
      list = looked;
      begins = later_on seen told looked learns.kept later;
      learns = on;
      holds = has_batch p whats receipt looked posts.0 on;
      recomputed = is;
    }
