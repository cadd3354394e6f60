-- What a look shows.
use Rattle.std.proofs.Common.{◌≡◌, ℕ, List, Option, ap, ◌∙◌}
use Rattle.agg_types.specs.declared.event.What.{What}
use Rattle.fleet_model.specs.Machine.{session_of}
use Rattle.fleet_model.specs.State.{IsStateOf, State}
use Rattle.hub.specs.History.{Beginning}
use Rattle.hub.specs.Posts.{Seated}
use Rattle.hub.specs.Shows.{ShowsPosted}
use Rattle.test_hub.specs.Seen.{IsSessionShown}

pub session_shown : (seen receipt : Beginning) (p : Seated) (whats : List What) (book : State)
    (peer : ℕ) (session : Option ℕ) → ShowsPosted seen receipt p whats book
    → session ≡ session_of book peer → IsSessionShown seen p whats peer session
unfolding IsStateOf
session_shown seen receipt p whats book peer session shows is = record {
  list = shows.list;
  begins = shows.begins;
  holds = shows.holds;
  is = is ∙ ap (λ (s : State). session_of s peer) shows.recomputed;
}
