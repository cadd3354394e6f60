use Rattle.std.specs.Prelude.{ℕ, zero, suc, List, [], ◌∷◌}
use Rattle.peer_rows.specs.declared.row.Held.{Held}
use Rattle.peer_rows.specs.declared.row.Held.TheVariants.{Count, Rate}

-- what a cell adds to a total: a count its number, a rate nothing
abbrev pub counted : Held → ℕ
counted (Count n) = n
counted (Rate r) = 0

-- what a row adds in a column
abbrev pub counted_at : List Held → ℕ → ℕ
counted_at [] col = 0
counted_at (c ∷ cs) zero = counted c
counted_at (c ∷ cs) (suc col) = counted_at cs col
