use Rattle.std.specs.Prelude.{◌≡◌, ℕ, Bool, List, length, filter, slice_index, ◌==◌}
use Rattle.std.specs.Ordering.{nat_cmp, ordering_then, is_eq}
use Rattle.std.specs.Cmp.Lexicographic.{slice_cmp}
use Rattle.std.specs.declared.cmp.Ordering.{Ordering}
use Rattle.std.specs.Map.{keys_of}
use Rattle.std.specs.List.{AllByRecursion}
use Rattle.std.specs.List.Sorted.{IsStrictlySortedBy}
use Rattle.peer_rows.specs.Peers.{ArePeers}
use Rattle.peer_rows.specs.Spread.{spread}
use Rattle.peer_rows.specs.declared.row.Row.{Row}

-- where a row stands in its table: its key, and the peer that holds it
abbrev pub Spot : Type 0
Spot = List ℕ × ℕ

abbrev pub spot : List ℕ → ℕ → Spot
spot key peer = (key, peer)

-- the order of spots: by key, then by peer
abbrev pub spot_cmp : Spot → Spot → Ordering
spot_cmp a b = ordering_then (slice_cmp nat_cmp a.0 b.0) (nat_cmp a.1 b.1)

-- whether two keys are the same
abbrev pub same_key : List ℕ → List ℕ → Bool
same_key a b = is_eq (slice_cmp nat_cmp a b)

-- a table: how many peers there are, and its rows by key and peer
pub record TableRows : Type 0 where
  pub peers : ℕ
  pub entries : List (Spot × Row)

-- the rows of keys, each with its key and its peer
abbrev pub rows_in : List (List ℕ × List (ℕ × Row)) → List (Spot × Row)
rows_in keys = spread spot keys

-- how many rows a peer holds
abbrev pub rows_of_peer : ℕ → List (Spot × Row) → ℕ
rows_of_peer peer entries = length (filter (λ e. peer == e.0.1) entries)

-- each key has a row, and its rows stand by peer, a peer once
abbrev pub EachPeerOnce : List (List ℕ × List (ℕ × Row)) → Type 0
EachPeerOnce keys = AllByRecursion (λ e. ArePeers e.1) keys

-- the keys stand in order, each peer once at a key, and the counts are those of the peers' rows
pub record IsKept (keys : List (List ℕ × List (ℕ × Row))) (counts : List ℕ) : Type 0 where
  pub ordered : IsStrictlySortedBy (slice_cmp nat_cmp) (keys_of keys)
  pub once : EachPeerOnce keys
  pub counted : (peer : ℕ) → slice_index counts peer ≡ rows_of_peer peer (rows_in keys)

-- how many of a key's rows a peer holds
abbrev pub rows_at_peer : ℕ → List (ℕ × Row) → ℕ
rows_at_peer peer rows = length (filter (λ r. peer == r.0) rows)
