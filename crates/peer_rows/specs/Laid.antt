-- A row as it lies in memory, and what it stands for.
use Rattle.std.specs.Prelude.{ℕ, ◌+◌, ◌*◌, ◌/◌, ◌%◌, ◌^◌, ◌==◌, List, Option, None, Some, map}
use Rattle.std.specs.Prelude.{if◌then◌else◌}
use Rattle.std.specs.Option.{option_map}
use Rattle.peer_rows.specs.Few.{cells_of}
use Rattle.peer_rows.specs.Packed.{held_of}
use Rattle.peer_rows.specs.declared.row.Held.{Held}
use Rattle.peer_rows.specs.declared.row.Laid.{Laid}
use Rattle.peer_rows.specs.declared.row.Laid.TheVariants.{Few, Block}

-- a row: its cells, the moment of its arrival, and the moment from which it has ended, if it ends
pub record StoredRow : Type 0 where
  pub cells : List Held
  pub arrived : ℕ
  pub ends : Option ℕ

-- the row of cells that arrive at a moment, and end once a life is over, if there is one
abbrev pub stored : List Held → ℕ → Option ℕ → StoredRow
stored cells arrived life =
    record {
      cells = cells;
      arrived = arrived;
      ends = option_map (λ life. arrived + life) life;
    }

-- a life in 32 bits: the last number is none
abbrev pub life_in : ℕ → Option ℕ
life_in life = if life == 4294967295 then None else Some life

-- the moment that its 32 lower bits make with those above them
abbrev pub moment_of : ℕ → ℕ → ℕ
moment_of low high = low + 2 ^ 32 * high

-- the row. Where it has few cells, the number of these and the high bits of the moment of its
-- arrival lie in one byte.
abbrev pub row_in : Laid → StoredRow
row_in (Few head kinds words low life) =
    stored (cells_of (head % 8) kinds words) (moment_of low (head / 8)) (life_in life)
row_in (Block ends life cells arrived) =
    stored (map held_of cells.items) arrived (if ends then Some life else None)
