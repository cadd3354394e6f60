-- Which keys of a table an event took the rows of.
use Rattle.std.specs.Prelude.{◌≡◌, ◌==◌, ◌&&◌, ℕ, Bool, true, false, not, filter, List}
use Rattle.agg_types.specs.declared.event.What.{What}
use Rattle.agg_types.specs.declared.event.What.TheVariants.{Sit, Open, Put, Clear, AddFilter}
use Rattle.agg_types.specs.declared.event.What.TheVariants.{DropFilter, Moment, Leave}
use Rattle.fleet_model.specs.Keys.{Rows}
use Rattle.standing_filters.specs.Watched.{is_among}
use Rattle.book_machine.specs.declared.gone.Gone.{Gone}
use Rattle.book_machine.specs.declared.gone.Gone.TheVariants.{Nothing, Table, Keys}

-- whether a key is one of them
abbrev pub is_gone : Gone → List ℕ → Bool
is_gone Nothing key = false
is_gone Table key = true
is_gone (Keys keys) key = is_among keys.items key

-- the rows without those of these keys of a table
abbrev pub without_keys : ℕ → (List ℕ → Bool) → Rows → Rows
without_keys table gone rows =
    filter (λ row. not ((row.0.table == table) && gone row.0.key)) rows

-- an event that clears a table took the rows of these keys of it, and no others
abbrev pub AreGone : What → (List ℕ → Bool) → Rows → Rows → Type 0
AreGone Sit gone rows later = Unit {0}
AreGone (Open peer) gone rows later = Unit {0}
AreGone (Put peer table key life cells) gone rows later = Unit {0}
AreGone (Clear table sel) gone rows later = later ≡ without_keys table gone rows
AreGone (AddFilter filtering) gone rows later = Unit {0}
AreGone (DropFilter name) gone rows later = Unit {0}
AreGone (Moment moment) gone rows later = Unit {0}
AreGone Leave gone rows later = Unit {0}
