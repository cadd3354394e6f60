-- Columns whose integers are all that an update has, in the columns' order; and how many words
-- their cells take.
use Rattle.std.specs.Prelude.{ℕ, ◌+◌, ◌-◌, Bool, ◌==◌, ◌&&◌, nat_lt, nat_le, List, [], ◌∷◌}
use Rattle.agg_types.specs.declared.event.Cell.TheVariants as cells
use Rattle.update_values.specs.declared.plan.Source.{Source}
use Rattle.update_values.specs.declared.plan.Source.TheVariants as sources

-- whether the integers of these columns stand one column's behind another's, from this place up to
-- that one
abbrev pub is_straight : ℕ → ℕ → List Source → Bool
is_straight at end [] = at == end
is_straight at end (sources.Blank cell ∷ others) = is_straight at end others
is_straight at end (sources.Count place wide ∷ others) =
    place == at && nat_lt at end && is_straight (at + 1) end others
is_straight at end (sources.Rate place ∷ others) =
    place == at && nat_le 3 (end - at) && is_straight (at + 3) end others

-- how many words a column's cell takes, where it is packed
abbrev pub words_of : Source → ℕ
words_of (sources.Blank (cells.Count count)) = 1
words_of (sources.Blank (cells.Rate elapsed cur prev)) = 3
words_of (sources.Count place wide) = 1
words_of (sources.Rate place) = 3
