-- What becomes of places where the rows in one of them change.
use Rattle.std.specs.Prelude.{◌≡◌, ℕ, Bool, List, Option, Some, Result, IsOk, IsSome, IfOk, true}
use Rattle.std.specs.Prelude.{MatchBool, OnOk, OnErr, is_some}
use Rattle.std.specs.BTreeMap.{insert_entry, is_at}
use Rattle.std.specs.Map.{lookup, remove_entry}
use Rattle.std.specs.Ordering.{nat_cmp}
use Rattle.agg_types.specs.declared.no_memory.NoMemory.{NoMemory}
use Rattle.place_index.specs.Places.{revalued, value_at}
use Rattle.peer_rows.specs.Peers.{ArePeers}
use Rattle.peer_rows.specs.Places.{Places}
use Rattle.peer_rows.specs.declared.row.Row.{Row}

-- the rows in a place are these now, and were those
pub record IsChanged (at : ℕ) (rows later : List (ℕ × Row)) (old new : Places) : Type 0 where
  pub value : value_at old at ≡ Some rows
  pub is : new ≡ revalued old at later
  pub are : ArePeers later

-- a peer's row is put among the rows in a place, or that was refused
pub record IsPut (peer : ℕ) (row : Row) (result : Result (Option Row) NoMemory) (at : ℕ)
    (old new : Places) : Type 0 where
  pub rows : List (ℕ × Row)
  pub later : List (ℕ × Row)
  pub changed : IsChanged at rows later old new
  pub ok : OnOk result (later ≡ insert_entry nat_cmp rows peer row)
  pub before : IfOk result (λ old. old ≡ lookup (is_at (nat_cmp peer)) rows)
  pub held : IsSome (lookup (is_at (nat_cmp peer)) rows) → IsOk result
  pub err : OnErr result (later ≡ rows)

-- a peer's row in a place is exchanged for another, if there is one
pub record IsExchanged (peer : ℕ) (row back : Row) (found : Bool) (at : ℕ) (old new : Places)
    : Type 0 where
  pub rows : List (ℕ × Row)
  pub later : List (ℕ × Row)
  pub changed : IsChanged at rows later old new
  pub is : found ≡ is_some (lookup (is_at (nat_cmp peer)) rows)
  pub after : MatchBool found (later ≡ insert_entry nat_cmp rows peer row) (later ≡ rows)
  pub came : MatchBool found (lookup (is_at (nat_cmp peer)) rows ≡ Some back) (back ≡ row)

-- a peer's row in a place becomes another, where there is one, or nothing has changed
pub record IsArrived (peer : ℕ) (row : Row) (done : Bool) (at : ℕ) (old new : Places)
    : Type 0 where
  pub rows : List (ℕ × Row)
  pub later : List (ℕ × Row)
  pub changed : IsChanged at rows later old new
  pub held : done ≡ true → IsSome (lookup (is_at (nat_cmp peer)) rows)
  pub after : MatchBool done (later ≡ insert_entry nat_cmp rows peer row) (later ≡ rows)

-- a peer's row is taken from among the rows in a place
pub record IsTaken (peer : ℕ) (result : Option Row) (at : ℕ) (old new : Places) : Type 0 where
  pub rows : List (ℕ × Row)
  pub later : List (ℕ × Row)
  pub changed : IsChanged at rows later old new
  pub is : result ≡ lookup (is_at (nat_cmp peer)) rows
  pub after : later ≡ remove_entry (is_at (nat_cmp peer)) rows
