-- What a batch lends of one of its events, and what it keeps of it.
use Rattle.std.specs.Prelude.{ℕ, ◌+◌, ◌-◌, ◌^◌, ◌==◌, ◌<◌, ◌≤◌, List, [], ◌∷◌, drop, take}
use Rattle.std.specs.Prelude.{Option, None, Some, box_value, if◌then◌else◌}
use Rattle.agg_types.specs.declared.entry.Entry.{Entry}
use Rattle.agg_types.specs.declared.entry.Entry.TheVariants as entries
use Rattle.agg_types.specs.declared.event.Cell.{Cell}
use Rattle.agg_types.specs.declared.event.What.{What}
use Rattle.agg_types.specs.declared.event.What.TheVariants as whats
use Rattle.agg_types.specs.declared.lent_what.LentCells.{LentCells}
use Rattle.agg_types.specs.declared.lent_what.LentCells.TheVariants.{Slice, Packed}
use Rattle.agg_types.specs.declared.lent_what.LentWhat.{LentWhat}
use Rattle.agg_types.specs.declared.lent_what.LentWhat.TheVariants as lent

-- the cells of an update that is lent
abbrev pub lent_cells : LentCells → List Cell
lent_cells (Slice cells) = cells.now
lent_cells (Packed cells) = cells.now

-- what is lent, as what happened
abbrev pub as_what : LentWhat → What
as_what (lent.Put peer table key life cells) =
    whats.Put peer table key.now life (lent_cells cells)
as_what (lent.Other what) = what.now

-- the life that a number stands for: the greatest of 32 bits stands for none
abbrev pub life_of : ℕ → Option ℕ
life_of life = if life == 2 ^ 32 - 1 then None else Some life

-- what an entry of a batch says over the batch's cells: those of an update lie there, or in the
-- entry itself
abbrev pub entry_what : List Cell → Entry → What
entry_what cells (entries.Put count table peer start life key) =
    whats.Put peer table key (life_of life) (take count (drop start cells))
entry_what cells (entries.Packed table peer life key packed) =
    whats.Put peer table key (life_of life) packed
entry_what cells (entries.Other what) = box_value what

-- the cells of each entry lie within so many
abbrev pub AreWithin : ℕ → List Entry → Type 0
AreWithin len [] = Unit {0}
AreWithin len (entries.Put count table peer start life key ∷ entries) =
    (start + count ≤ len) × AreWithin len entries
AreWithin len (entries.Packed table peer life key packed ∷ entries) = AreWithin len entries
AreWithin len (entries.Other what ∷ entries) = AreWithin len entries

-- a life that is below that
abbrev pub FitsLife : Option ℕ → Type 0
FitsLife None = Unit {0}
FitsLife (Some ms) = ms < 2 ^ 32 - 1

-- an update's peer, table and life fit an entry
abbrev pub FitsEntry : ℕ → ℕ → Option ℕ → Type 0
FitsEntry peer table life = (peer < 2 ^ 32) × (table < 2 ^ 16) × FitsLife life

-- and so do its cells' place and number
abbrev pub FitsCells : ℕ → ℕ → Type 0
FitsCells start count = (start < 2 ^ 32) × (count < 256)
