use Rattle.std.specs.Prelude.{◌≡◌, ◌≢◌, ℕ, zero, suc, ◌<◌, List, [], ◌∷◌}
use Rattle.std.specs.Ordering.{nat_cmp}
use Rattle.std.specs.Map.{keys_of}
use Rattle.std.specs.List.Sorted.{IsStrictlySortedBy}
use Rattle.peer_rows.specs.Most.{AreMosts}
use Rattle.peer_rows.specs.declared.row.Row.{Row}
use Rattle.peer_rows.specs.declared.key_rows.Peers.{Peers}
use Rattle.peer_rows.specs.declared.key_rows.Peers.TheVariants.{One, Few, Many, Paged}

-- the rows, each with the peer that holds it
abbrev pub held_by : Peers → List (ℕ × Row)
held_by (One peer row) = (peer, row) ∷ []
held_by (Few rows) = rows
held_by (Many rows mosts) = rows
held_by (Paged rows mosts) = rows

-- a single row that lies in the value itself
abbrev pub IsOne : Peers → Type 0
IsOne (One peer row) = Unit {0}
IsOne (Few rows) = ⊥
IsOne (Many rows mosts) = ⊥
IsOne (Paged rows mosts) = ⊥

-- where the most that rows are worth together is kept with them, it is their sum
abbrev pub AreSummed : Peers → Type 0
AreSummed (One peer row) = Unit {0}
AreSummed (Few rows) = Unit {0}
AreSummed (Many rows mosts) = AreMosts mosts rows
AreSummed (Paged rows mosts) = AreMosts mosts rows

-- the rows of a key: at least one, by peer, each peer once
pub record ArePeers (rows : List (ℕ × Row)) : Type 0 where
  pub some : rows ≢ []
  pub sorted : IsStrictlySortedBy nat_cmp (keys_of rows)

-- the row of a peer stands at a place, and those before it are of smaller peers
abbrev pub IsFound : ℕ → List (ℕ × Row) → ℕ → Type 0
IsFound peer [] i = ⊥
IsFound peer (r ∷ rows) zero = r.0 ≡ peer
IsFound peer (r ∷ rows) (suc i) = (r.0 < peer) × IsFound peer rows i

-- the row of a peer would go to a place: smaller peers stand before it, and a greater one there
abbrev pub IsGap : ℕ → List (ℕ × Row) → ℕ → Type 0
IsGap peer [] zero = Unit {0}
IsGap peer [] (suc i) = ⊥
IsGap peer (r ∷ rows) zero = peer < r.0
IsGap peer (r ∷ rows) (suc i) = (r.0 < peer) × IsGap peer rows i
