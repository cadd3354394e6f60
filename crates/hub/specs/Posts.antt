-- What a post tells: which list its receipt shows, and what a refusal leaves.
use Rattle.std.specs.Prelude.{◌≡◌, ◌≢◌, ℕ, ◌+◌, ◌≤◌, List, [], ◌∷◌, length, Bool, true}
use Rattle.std.specs.Prelude.{false, ◌&&◌, ◌==◌, not, ◌++◌}
use Rattle.std.specs.List.{list_any}
use mathlib.Core.List.{IsPrefix}
use Rattle.agg_types.specs.declared.event.Event.{Event}
use Rattle.agg_types.specs.declared.event.What.{What}
use Rattle.agg_types.specs.declared.event.What.TheVariants.{Sit, Open, Put, Clear, AddFilter}
use Rattle.agg_types.specs.declared.event.What.TheVariants.{DropFilter, Moment, Leave}
use Rattle.agg_types.specs.declared.limits.TheConstants.{NUMBERS_END}
use Rattle.fleet_model.specs.Laws.{opens_at}
use Rattle.fleet_model.specs.Rows.{putter}
use Rattle.fleet_model.specs.Seats.{is_number, numbered}
use Rattle.fleet_model.specs.Sessions.{last_opener}
use Rattle.hub.specs.declared.awaiting.Await.{Await}
use Rattle.hub.specs.declared.awaiting.Await.TheVariants as awaits
use Rattle.hub.specs.declared.faults.AppendFault.{AppendFault}
use Rattle.hub.specs.declared.faults.AppendFault.TheVariants as faults
use Rattle.hub.specs.declared.faults.PostFault.{PostFault}
use Rattle.hub.specs.declared.faults.PostFault.TheVariants.{Replaced, NotNext, NoMemory, Pending}
use Rattle.hub.specs.declared.faults.PostFault.TheVariants.{Spent}
use Rattle.hub.specs.History.{AllCount, Beginning, longer_by, own}

-- a seat, the number of its next event, and the list that it has seen
pub record Seated : Type 0 where
  pub seat : ℕ
  pub number : ℕ
  pub seen : Beginning

-- a later list of the same history
pub record Follows (some later : Beginning) : Type 0 where
  pub same : later ≡ record some { events = later.events }
  pub events : IsPrefix some.events later.events

abbrev pub is_put : What → Bool
is_put Sit = false
is_put (Open peer) = false
is_put (Put peer table key life cells) = true
is_put (Clear table sel) = false
is_put (AddFilter filter) = false
is_put (DropFilter name) = false
is_put (Moment moment) = false
is_put Leave = false

-- a seat opened a peer that another seat opened later
abbrev pub is_replaced : ℕ → ℕ → List Event → ℕ → Bool
is_replaced seat by events peer =
    list_any (opens_at seat peer) events && is_number (last_opener peer events) by
    && not (by == seat)

-- what a seat posts behind these events and its first posts is a Put of such a peer
pub record IsReplacedPut (p : Seated) (before : List Event) (first : List What) (put : What)
    (by : ℕ) : Type 0 where
  pub puts : is_put put ≡ true
  pub replaced : is_replaced p.seat by (before ++ numbered p.seat p.number first) (putter put)
      ≡ true

-- some post of a batch is one, at its place
pub record FindsReplaced (p : Seated) (before : List Event) (whats : List What) (by : ℕ)
    : Type 0 where
  pub first : List What
  pub put : What
  pub later : List What
  pub split : whats ≡ first ++ put ∷ later
  pub at : IsReplacedPut p before first put by

abbrev pub NoneReplaced : Seated → List Event → List What → Type 0
NoneReplaced p before whats = (by : ℕ) → FindsReplaced p before whats by → ⊥

-- The batch stands at the end of the list, in order and with the seat's next numbers. Before it
-- stand all that the pass had seen, and as many events of its seat as its number says. All events
-- of the list count, and no Put of the batch is of a peer that another seat opened later.
pub record ShowsBatch (p : Seated) (whats : List What) (shown : Beginning) : Type 0 where
  pub before : Beginning
  pub seen : Follows p.seen before
  pub owns : length (own p.seat before.events) ≡ p.number
  pub posted : shown ≡ longer_by before (numbered p.seat p.number whats)
  pub legal : AllCount shown.config shown.opening shown.events
  pub none_replaced : NoneReplaced p before.events whats

-- the batch is shown, and the pass has seen the list and goes on behind it
abbrev pub PostsAfter : Seated → Seated → List What → Beginning → Type 0
PostsAfter p p' whats shown =
    ShowsBatch p whats shown
    × (p' ≡ record { seat = p.seat; number = p.number + length whats; seen = shown })

-- the history has another number of events of the seat than the pass says
pub record IsNotNext (p : Seated) (found : ℕ) (shown : Beginning) : Type 0 where
  pub seen : Follows p.seen shown
  pub owns : length (own p.seat shown.events) ≡ found
  pub other : found ≢ p.number

-- some posted Put is of a peer that another seat opened later; the pass has the seat's next number
pub record IsReplaced (p : Seated) (whats : List What) (by : ℕ) (shown : Beginning) : Type 0 where
  pub seen : Follows p.seen shown
  pub owns : length (own p.seat shown.events) ≡ p.number
  pub found : FindsReplaced p shown.events whats by

-- the pass after its batch was stored, and not shown yet
abbrev pub advanced : Seated → ℕ → Seated
advanced p count = record p { number = p.number + count }

-- The batch stands at the end of the ticket's list, as a receipt for it would show, and the pass
-- goes on behind it.
abbrev pub Appends : Seated → Seated → List What → Beginning → Type 0
Appends p p' whats ticket = ShowsBatch p whats ticket × (p' ≡ advanced p (length whats))

-- the numbers of a seat don't go as far, in a list of the history in which the pass has its next
-- number. In that list no Put of the batch is of a peer that another seat opened later
pub record IsSpent (p : Seated) (whats : List What) : Type 0 where
  pub before : Beginning
  pub seen : Follows p.seen before
  pub owns : length (own p.seat before.events) ≡ p.number
  pub none_replaced : NoneReplaced p before.events whats
  pub spent : NUMBERS_END ≤ p.number + length whats

-- why a batch wasn't appended
abbrev pub IsRefused : Seated → List What → AppendFault → Type 0
IsRefused p whats (faults.Replaced by now) = IsReplaced p whats by now
IsRefused p whats (faults.NotNext found now) = IsNotNext p found now
IsRefused p whats faults.NoMemory = Unit {0}
IsRefused p whats faults.Spent = IsSpent p whats

-- the pass after a refused append, and the batch that comes back
pub record AppendRefused (p p' : Seated) (whats : List What) (fault : AppendFault)
    (back : List What) : Type 0 where
  pub pass : p' ≡ p
  pub refused : IsRefused p whats fault
  pub back_is : back ≡ whats

-- a ticket's receipt is of its list, and a ticket that comes back is the same
abbrev pub IsAwaited : Beginning → Await → Type 0
IsAwaited ticket (awaits.Shown receipt) = receipt ≡ ticket
IsAwaited ticket (awaits.NotYet same) = same ≡ ticket
IsAwaited ticket awaits.Pending = Unit {0}

-- the pass after a refusal, and what it tells
abbrev pub PostRefused : Seated → Seated → List What → PostFault → Type 0
PostRefused p p' whats (Replaced by shown) = (p' ≡ p) × IsReplaced p whats by shown
PostRefused p p' whats (NotNext found shown) = (p' ≡ p) × IsNotNext p found shown
PostRefused p p' whats (NoMemory back) = (p' ≡ p) × (back ≡ whats)
PostRefused p p' whats Pending = p' ≡ advanced p (length whats)
PostRefused p p' whats Spent = (p' ≡ p) × IsSpent p whats

-- a pass that came back, and why
abbrev pub LeaveRefused : Seated → Seated → PostFault → Type 0
LeaveRefused p p' (Replaced by shown) = ⊥
LeaveRefused p p' (NotNext found shown) = (p' ≡ p) × IsNotNext p found shown
LeaveRefused p p' (NoMemory back) = (p' ≡ p) × (back ≡ [])
LeaveRefused p p' Pending = ⊥
LeaveRefused p p' Spent = ⊥

-- a seat that sat down: its own events are that alone, and its next number is 1
pub record SitsDown (p : Seated) : Type 0 where
  pub number : p.number ≡ 1
  pub own_is : own p.seat p.seen.events ≡ numbered p.seat 0 (Sit ∷ [])
  pub legal : AllCount p.seen.config p.seen.opening p.seen.events
