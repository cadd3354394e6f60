use Rattle.std.specs.Prelude.{◌+◌, ◌*◌, ◌^◌, slice_index}
use Rattle.period_rate.specs.Words.{rate_of}
use Rattle.peer_rows.specs.declared.row.Held.{Held}
use Rattle.peer_rows.specs.declared.row.Held.TheVariants as held
use Rattle.peer_rows.specs.declared.packed.Packed.{Packed}
use Rattle.peer_rows.specs.declared.packed.Packed.TheVariants.{Count, Rate}

-- the cell that packed words stand for: a count by its low and its high half, a rate by its five
-- words
abbrev pub held_of : Packed → Held
held_of (Count words) = held.Count (slice_index words 0 + 2 ^ 32 * slice_index words 1)
held_of (Rate words) = held.Rate (rate_of words)
