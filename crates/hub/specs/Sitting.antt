-- What a pass keeps of its own seat.
use Rattle.std.specs.Prelude.{◌≡◌, ℕ, Bool, true, false, ◌&&◌, ◌==◌, not, if◌then◌else◌, List}
use Rattle.std.specs.Prelude.{[], ◌∷◌, length, replicate, Option, None, Some, slice_index_or}
use Rattle.std.specs.Prelude.{slice_set}
use Rattle.std.specs.List.{list_any}
use Rattle.agg_types.specs.declared.event.What.{What}
use Rattle.agg_types.specs.declared.event.What.TheVariants.{Sit, Open, Put, Clear, AddFilter}
use Rattle.agg_types.specs.declared.event.What.TheVariants.{DropFilter, Moment, Leave}
use Rattle.fleet_model.specs.Laws.{opens_at}
use Rattle.fleet_model.specs.Rows.{putter}
use Rattle.fleet_model.specs.Sessions.{opens}
use Rattle.hub.specs.History.{Beginning, own}
use Rattle.hub.specs.Posts.{is_put}
use Rattle.hub.specs.Roll.{Counted}

pub record Recalled : Type 0 where
  pub seat : ℕ
  -- the number of its next event
  pub number : ℕ
  -- whether it opened a peer, by peer
  pub opened : List Bool

-- what is kept of a seat is what these events say of it
pub record Recalls (r : Recalled) (b : Beginning) : Type 0 where
  pub owns : length (own r.seat b.events) ≡ r.number
  pub peers : length r.opened ≡ length b.config.peers
  pub opened : (peer : ℕ)
      → slice_index_or r.opened peer false ≡ list_any (opens_at r.seat peer) b.events

-- the seat that is the next to sit down, once it sits
abbrev pub sits_new : Counted → Recalled
sits_new counted = record {
  seat = counted.next_seat;
  number = 1;
  opened = replicate (length counted.last) false;
}

-- which peers were opened, after something happened
abbrev pub opened_after : List Bool → What → List Bool
opened_after opened Sit = opened
opened_after opened (Open peer) = slice_set opened peer true
opened_after opened (Put peer table key life cells) = opened
opened_after opened (Clear table sel) = opened
opened_after opened (AddFilter filter) = opened
opened_after opened (DropFilter name) = opened
opened_after opened (Moment moment) = opened
opened_after opened Leave = opened

-- which peers were opened, after all of these happened
abbrev pub all_opened_after : List Bool → List What → List Bool
all_opened_after opened [] = opened
all_opened_after opened (what ∷ whats) = all_opened_after (opened_after opened what) whats

-- another seat
abbrev pub other_than : ℕ → Option ℕ → Option ℕ
other_than seat None = None
other_than seat (Some by) = if by == seat then None else Some by

-- another seat that opened the peer last, where this seat opened it too
abbrev pub replacer : Recalled → Counted → ℕ → Option ℕ
replacer r counted peer =
    if slice_index_or r.opened peer false
    then other_than r.seat (slice_index_or counted.last peer None) else None

-- the same of what a seat posts behind its first posts, where none of these opens the peer again
abbrev pub replacer_at : Recalled → Counted → List What → What → Option ℕ
replacer_at r counted first what =
    if is_put what && not (list_any (opens (putter what)) first)
    then replacer r counted (putter what) else None
