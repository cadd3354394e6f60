use Rattle.std.specs.Prelude.{ℕ, List, [], ◌∷◌, Option, Some, None, map}
use Rattle.std.specs.Borrow.{Bor}
use Rattle.peer_rows.specs.declared.row.Row.{Row}

-- places, each empty or with a key and its rows
abbrev pub Places : Type 0
Places = List (Option (List ℕ × List (ℕ × Row)))

-- keys, each with its rows
abbrev pub Keys : Type 0
Keys = List (List ℕ × List (ℕ × Row))

-- the keys with their rows as they stand by place
abbrev pub by_place : Places → Keys
by_place [] = []
by_place (None ∷ places) = by_place places
by_place (Some item ∷ places) = item ∷ by_place places

-- what a lent key shows with its rows
abbrev pub one_shown : Bor (List ℕ) × Bor (List (ℕ × Row)) → List ℕ × List (ℕ × Row)
one_shown e = (e.0.now, e.1.now)

-- what lent keys show with their rows
abbrev pub shown : List (Bor (List ℕ) × Bor (List (ℕ × Row))) → Keys
shown keys = map one_shown keys
