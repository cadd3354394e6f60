-- What was told at a seat.
use Rattle.std.specs.Prelude.{◌≡◌, ℕ, ◌+◌, List, [], ◌∷◌, ◌++◌, length, Option, MatchOption, IfSome}
use Rattle.std.specs.Prelude.{Result, Ok, Err, ◌≢◌}
use Rattle.agg_types.specs.declared.event.Event.{Event}
use Rattle.agg_types.specs.declared.event.What.{What}
use Rattle.agg_types.specs.declared.event.What.TheVariants.{Sit, Leave}
use Rattle.fleet_model.specs.Seats.{numbered}
use Rattle.hub.specs.declared.faults.PostFault.{PostFault}
use Rattle.hub.specs.declared.faults.PostFault.TheVariants.{Replaced, NotNext, NoMemory, Pending}
use Rattle.hub.specs.declared.faults.PostFault.TheVariants.{Spent}
use Rattle.hub.specs.History.{Beginning, own}
use Rattle.hub.specs.Posts.{Follows}
use Rattle.worker_frame.specs.declared.poster.Poster.{Poster}
use Rattle.worker_frame.specs.declared.served.Served.{Served}
use mathlib.Core.List.{IsPrefix}

-- a list's events of a seat are that it sat down and told this, and no others
abbrev pub Tells : ℕ → List What → Beginning → Type 0
Tells seat whats list = own seat list.events ≡ numbered seat 0 (Sit ∷ whats)

-- the last receipt shows that all of this was told; without one nothing was
abbrev pub TellsLast : ℕ → List What → Option Beginning → Type 0
TellsLast seat whats last = MatchOption last (whats ≡ []) (Tells seat whats)

-- a pass of this hub, and the last receipt of its posts, where this was told, and so many events
-- more are posted and not shown yet. What they have seen is of the hub's history
pub record HasTold (hub : Beginning) (poster : Poster) (whats : List What)
    (waiting : ℕ) : Type 0 where
  pub seen : Follows hub poster.pass.seen
  pub number : poster.pass.number ≡ 1 + length whats + waiting
  pub tells : Tells poster.pass.seat whats poster.pass.seen
  pub last : TellsLast poster.pass.seat whats poster.last
  pub shown : IfSome poster.last (Follows hub)

-- how many events of a refused batch are stored all the same
abbrev pub stored_of : PostFault → ℕ → ℕ
stored_of (Replaced by shown) count = 0
stored_of (NotNext found shown) count = 0
stored_of (NoMemory back) count = 0
stored_of Pending count = count
stored_of Spent count = 0

-- the same of a post that may have been refused
abbrev pub stored_in : {A : Type 0} → Result A PostFault → ℕ → ℕ
stored_in (Ok done) count = 0
stored_in (Err fault) count = stored_of fault count

-- after a post all of the batch was told; after a refusal nothing of it
abbrev pub TellsMore : Beginning → Poster → List What → List What → Result (Unit {0}) PostFault
    → Type 0
TellsMore hub poster whats batch (Ok done) = HasTold hub poster (whats ++ batch) 0
TellsMore hub poster whats batch (Err fault) = HasTold hub poster whats
    (stored_of fault (length batch))

-- a batch was appended behind what was told and seen, and isn't shown yet; the ticket's list tells
-- it
pub record IsWaiting (hub : Beginning) (poster : Poster) (whats batch : List What)
    (ticket : Beginning)
    : Type 0 where
  pub told : HasTold hub poster whats (length batch)
  pub tells : Tells poster.pass.seat (whats ++ batch) ticket
  pub shown : Follows hub ticket
  pub behind : Follows poster.pass.seen ticket

-- after an append the batch waits; after a refusal nothing was told
abbrev pub AppendsMore : Beginning → Poster → List What → List What → Result Beginning PostFault
    → Type 0
AppendsMore hub poster whats batch (Ok ticket) = IsWaiting hub poster whats batch ticket
AppendsMore hub poster whats batch (Err fault) =
    HasTold hub poster whats (stored_of fault (length batch))

-- the events of a seat that left are what it told, so many more, and its leave
pub record IsLeft (seat : ℕ) (whats : List What) (waiting : ℕ) (list : Beginning) : Type 0 where
  pub more : List Event
  pub count : length more ≡ waiting
  pub events : own seat list.events ≡ numbered seat 0 (Sit ∷ whats) ++ more
      ++ numbered seat (1 + length whats + waiting) (Leave ∷ [])

-- what a worker's receipts show of its seat; their lists are of the hub's history
pub record IsServed (hub : Beginning) (seat : ℕ) (whats : List What) (waiting : ℕ)
    (served : Served) : Type 0 where
  pub last : TellsLast seat whats served.last
  pub left : IfSome served.left (IsLeft seat whats waiting)
  pub last_shown : IfSome served.last (Follows hub)
  pub left_shown : IfSome served.left (Follows hub)

-- a list shows what a seat told, if it told anything
abbrev pub ShowsTold : ℕ → List What → Beginning → Type 0
ShowsTold seat whats list = whats ≢ []
    → IsPrefix (numbered seat 0 (Sit ∷ whats)) (own seat list.events)
