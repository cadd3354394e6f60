use Rattle.std.specs.Prelude.{ℕ, List, [], ◌∷◌, Option, Some, None}
use Rattle.std.specs.Borrow.{Bor}
use Rattle.peer_rows.specs.declared.row.Row.{Row}
use Rattle.peer_rows.specs.Spread.{part}
use Rattle.peer_rows.specs.Table.{Spot, spot}

-- what an item of a listing of one key's rows shows: the peer and its row
abbrev pub peer_and_row : ℕ × Bor Row → ℕ × Row
peer_and_row p = (p.0, p.1.now)

-- what an item of a listing by key shows: the key and the peer, and their row
abbrev pub spot_and_row : Bor (List ℕ) × ℕ × Bor Row → Spot × Row
spot_and_row p = ((p.0.now, p.1), p.2.now)

-- what an item of a walk over keys shows: the key and its rows
abbrev pub key_and_rows : Bor (List ℕ) × List (ℕ × Row) → List ℕ × List (ℕ × Row)
key_and_rows p = (p.0.now, p.1)

-- the rows that are left of the key at which a listing stands
abbrev pub left_at : Option (Bor (List ℕ) × List (ℕ × Row)) → List (Spot × Row)
left_at None = []
left_at (Some p) = part spot p.0.now p.1

-- the one row, if there is one
abbrev pub one_of : Option (ℕ × Bor Row) → List (ℕ × Row)
one_of None = []
one_of (Some p) = peer_and_row p ∷ []
