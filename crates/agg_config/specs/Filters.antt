-- The conditions of a `filter` line.
use Rattle.std.specs.Prelude.{ℕ, zero, suc, if◌then◌else◌, nat_eq, List, [], ◌∷◌, length, Result}
use Rattle.std.specs.Prelude.{Ok}
use Rattle.agg_types.specs.declared.column.Col.{Col}
use Rattle.agg_types.specs.declared.config.Cond.{Cond}
use Rattle.agg_types.specs.declared.config.Op.{Op}
use Rattle.line_words.specs.Reader.{◌>>=◌, Left, comparison, data_column, end}
use Rattle.line_words.specs.declared.misread.Misread.{Misread}

-- the condition of the next three words, and what is left behind it; its bound may be no number
unfoldable pub condition : Left → Result ((Col × Op × Result ℕ Misread) × Left) Misread
condition left = do
  col ← data_column left
  said ← comparison col.1
  Ok ((col.0, said.0.0, said.0.1), said.1)

-- up to this many conditions, to the last word
unfoldable pub conditions : ℕ → Left → Result (List (Col × Op × Result ℕ Misread)) Misread
conditions zero left = do
  none ← end left
  Ok []
conditions (suc most) left = if nat_eq (length left.words) 0 then Ok [] else do
  first ← condition left
  others ← conditions most first.1
  Ok (first.0 ∷ others)

-- a condition with its bound, where that is a number
abbrev pub known_bound : Col × Op × Result ℕ Misread → Result Cond Misread
known_bound cond = do
  bound ← cond.2
  Ok (record { col = cond.0; op = cond.1; bound = bound })
