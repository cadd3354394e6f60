use Rattle.std.specs.Prelude.{◌≡◌, ℕ, ◌<◌, ◌≤◌, Option, IsTrue}
use Rattle.agg_types.specs.declared.event.What.{What}
use Rattle.agg_types.specs.declared.event.What.TheVariants.{Sit, Open, Put, Clear, AddFilter}
use Rattle.agg_types.specs.declared.event.What.TheVariants.{DropFilter, Moment, Leave}
use Rattle.agg_types.specs.declared.limits.TheConstants.{LAST_SEAT, NUMBERS_END}
use Rattle.fleet_model.specs.Seats.{is_number}

-- the number of an event that its seat is due
pub record HasDueNumber (seq : ℕ) (due : Option ℕ) : Type 0 where
  pub is_it : IsTrue (is_number due seq)
  pub small : seq < NUMBERS_END

-- the first number, and a seat that may sit down
pub record IsFirst (seat seq : ℕ) : Type 0 where
  pub first : seq ≡ 0
  pub small : seat ≤ LAST_SEAT

-- an event has the number that is due
abbrev pub IsDue : What → ℕ → ℕ → Option ℕ → Type 0
IsDue Sit seat seq due = IsFirst seat seq
IsDue (Open peer) seat seq due = HasDueNumber seq due
IsDue (Put peer table key life cells) seat seq due = HasDueNumber seq due
IsDue (Clear table sel) seat seq due = HasDueNumber seq due
IsDue (AddFilter filter) seat seq due = HasDueNumber seq due
IsDue (DropFilter name) seat seq due = HasDueNumber seq due
IsDue (Moment moment) seat seq due = HasDueNumber seq due
IsDue Leave seat seq due = HasDueNumber seq due
