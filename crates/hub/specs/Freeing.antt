-- What is taken while memory is short: it gives back more than it takes.
use Rattle.std.specs.Prelude.{◌≡◌, Bool, true, false}
use Rattle.agg_types.specs.declared.event.What.{What}
use Rattle.agg_types.specs.declared.event.What.TheVariants.{Sit, Open, Put, Clear, AddFilter}
use Rattle.agg_types.specs.declared.event.What.TheVariants.{DropFilter, Moment, Leave}

-- rows end by a moment, a clear takes rows away, and a filter goes with its keys
abbrev pub frees : What → Bool
frees Sit = false
frees (Open peer) = false
frees (Put peer table key life cells) = false
frees (Clear table sel) = true
frees (AddFilter filter) = false
frees (DropFilter name) = true
frees (Moment moment) = true
frees Leave = false

abbrev pub IsFreeing : What → Type 0
IsFreeing what = frees what ≡ true
