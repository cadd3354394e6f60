-- The book's moment.
use Rattle.std.specs.Prelude.{ℕ, ◌+◌, Bool, true, nat_lt, List, Option, None, Some, fold, max}
use Rattle.agg_types.specs.declared.event.Event.{Event}
use Rattle.agg_types.specs.declared.event.What.{What}
use Rattle.agg_types.specs.declared.event.What.TheVariants.{Sit, Open, Put, Clear, AddFilter}
use Rattle.agg_types.specs.declared.event.What.TheVariants.{DropFilter, Moment, Leave}
use Rattle.fleet_model.specs.declared.arrival.Arrival.{Arrival}

-- the moment after something happened: a later one that it says, else the same
abbrev pub moment_after : ℕ → What → ℕ
moment_after now Sit = now
moment_after now (Open peer) = now
moment_after now (Put peer table key life cells) = now
moment_after now (Clear table sel) = now
moment_after now (AddFilter filter) = now
moment_after now (DropFilter name) = now
moment_after now (Moment moment) = max now moment
moment_after now Leave = now

-- the largest of the opening moment and the moments that counted
unfoldable pub now_of : ℕ → List Event → ℕ
now_of opening counted = fold (λ now e. moment_after now e.what) opening counted

abbrev pub lives : Option ℕ → ℕ → ℕ → Bool
lives None arrived t = true
lives (Some life) arrived t = nat_lt t (arrived + life)

-- whether a row lives at t: it never ends, or t is before the end of its life
abbrev pub is_live : ℕ → Arrival → Bool
is_live t row = lives row.life row.arrived t
