-- Which seats sit and who opened which peer, as the locked side of the history counts them.
use Rattle.std.specs.Prelude.{◌≡◌, ℕ, true, false, List, [], ◌∷◌, length, Option, None, Some}
use Rattle.std.specs.Prelude.{slice_index_or, slice_set}
use Rattle.agg_types.specs.Fits.{fits}
use Rattle.agg_types.specs.declared.config.Config.{Config}
use Rattle.agg_types.specs.declared.event.What.{What}
use Rattle.agg_types.specs.declared.event.What.TheVariants.{Sit, Open, Put, Clear, AddFilter}
use Rattle.agg_types.specs.declared.event.What.TheVariants.{DropFilter, Moment, Leave}
use Rattle.fleet_model.specs.Seats.{is_leave, is_sit}
use Rattle.fleet_model.specs.Sessions.{last_opener}
use Rattle.fleet_model.specs.State.{state_of}
use Rattle.hub.specs.History.{Beginning}

pub record Counted : Type 0 where
  -- the number of its next event, by seat that sits
  pub seats : List (ℕ × ℕ)
  pub next_seat : ℕ
  -- the seat that last opened a peer, by peer
  pub last : List (Option ℕ)

-- what is counted is what the history says
pub record IsCountOf (counted : Counted) (b : Beginning) : Type 0 where
  pub seats : counted.seats ≡ (state_of b.config b.opening b.events).seats
  pub next_seat : counted.next_seat ≡ (state_of b.config b.opening b.events).next_seat
  pub peers : length counted.last ≡ length b.config.peers
  pub last : (peer : ℕ) → slice_index_or counted.last peer None ≡ last_opener peer b.events

-- something that a seat may post: it fits, and neither sits down nor leaves
pub record MayPost (config : Config) (what : What) : Type 0 where
  pub fits : fits config what ≡ true
  pub sits : is_sit what ≡ false
  pub leaves : is_leave what ≡ false

-- the last openers after something happened at a seat
abbrev pub last_after : List (Option ℕ) → ℕ → What → List (Option ℕ)
last_after last seat Sit = last
last_after last seat (Open peer) = slice_set last peer (Some seat)
last_after last seat (Put peer table key life cells) = last
last_after last seat (Clear table sel) = last
last_after last seat (AddFilter filter) = last
last_after last seat (DropFilter name) = last
last_after last seat (Moment moment) = last
last_after last seat Leave = last

-- the last openers after all of these happened
abbrev pub lasts_after : List (Option ℕ) → ℕ → List What → List (Option ℕ)
lasts_after last seat [] = last
lasts_after last seat (what ∷ whats) = lasts_after (last_after last seat what) seat whats
