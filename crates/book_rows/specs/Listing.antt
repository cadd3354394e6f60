-- What a listing of a table's keys lends.
use Rattle.std.specs.Prelude.{◌≡◌, ◌≢◌, ℕ, Bool, if◌then◌else◌, List, [], Option, None, map}
use Rattle.std.specs.Prelude.{unwrap_or, true}
use Rattle.std.specs.BTreeMap.{is_at}
use Rattle.std.specs.Cmp.Lexicographic.{slice_cmp}
use Rattle.std.specs.List.{IsDistinct, list_all, list_any}
use Rattle.std.specs.List.Sorted.{IsStrictlySortedBy}
use Rattle.std.specs.Map.{keys_of, lookup}
use Rattle.std.specs.Option.{option_map}
use Rattle.std.specs.Ordering.{eq_by_cmp, nat_cmp}
use Rattle.agg_types.specs.Col.{all_cols}
use Rattle.agg_types.specs.Op.{op_holds}
use Rattle.agg_types.specs.declared.column.Col.{Col}
use Rattle.agg_types.specs.declared.config.Cond.{Cond}
use Rattle.fleet_model.specs.Answers.{tally}
use Rattle.fleet_model.specs.Keys.{Rows, key_rows, meet_at}
use Rattle.fleet_model.specs.Values.{meets, same_key}
use Rattle.fleet_model.specs.declared.arrival.Arrival.{Arrival}
use Rattle.fleet_model.specs.declared.summed.Summed.{Summed}
use Rattle.agg_types.specs.declared.row_key.RowKey.{RowKey}
use Rattle.peer_rows.specs.Places.{Keys}
use Rattle.peer_rows.specs.Walk.{if_any}
use Rattle.peer_rows.specs.declared.row.Row.{Row}
use Rattle.book_rows.specs.Shown.{of_peer, rows_worth}

-- what rows of one key sum up to at t
abbrev pub sums_of : List (Col × ℕ) → ℕ → List (ℕ × Row) → Summed
sums_of cols t rows =
    let found : ℕ × Option ℕ = unwrap_or (tally t (map (of_peer 0 []) rows)) (0, None) in
    record {
      peers = found.0;
      left = found.1;
      values = map (λ col. rows_worth cols col t rows) all_cols;
    }

-- each key with what its rows sum up to at t
abbrev pub summed_up : List (Col × ℕ) → ℕ → Keys → List (List ℕ × Summed)
summed_up cols t keys = map (λ e. (e.0, sums_of cols t e.1)) keys

-- whether rows of one key meet all conditions at t
abbrev pub rows_meet : List (Col × ℕ) → List Cond → ℕ → List (ℕ × Row) → Bool
rows_meet cols conds t rows =
    list_all (λ cond. op_holds cond.op (rows_worth cols cond.col t rows) cond.bound) conds

-- the rows of a key, if there are any and they meet all conditions at t
abbrev pub if_met : List (Col × ℕ) → List Cond → ℕ → Rows
    → Option (List (RowKey × Arrival))
if_met cols conds t rows = if meet_at cols rows conds t then if_any rows else None

-- each key of a table whose rows meet all conditions at t, once with them, in whatever order
pub record AreMeeting (rows : Rows) (table : ℕ) (cols : List (Col × ℕ)) (conds : List Cond)
    (t : ℕ) (keys : Keys) : Type 0 where
  pub once : IsDistinct (eq_by_cmp (slice_cmp nat_cmp)) (keys_of keys)
  pub exact : (key : List ℕ)
      → option_map (map (of_peer table key)) (lookup (is_at (slice_cmp nat_cmp key)) keys)
      ≡ if_met cols conds t (key_rows rows table key)

-- of the keys of a table that have rows, these are the ones that meet all conditions at t
abbrev pub AreThoseMeeting : Rows → ℕ → List (Col × ℕ) → List Cond → ℕ
    → List (List ℕ) → Type 0
AreThoseMeeting rows table cols conds t keys = (key : List ℕ) → key_rows rows table key ≢ []
    → list_any (λ other. same_key other key) keys ≡ meets cols rows table key t conds

-- each key of a table that has rows meets all conditions at t
abbrev pub DoAllMeet : Rows → ℕ → List (Col × ℕ) → List Cond → ℕ → Type 0
DoAllMeet rows table cols conds t = (key : List ℕ) → key_rows rows table key ≢ []
    → meets cols rows table key t conds ≡ true

-- what is listed are these keys in order, each with what its rows sum up to
pub record ListsMeeting (rows : Rows) (table : ℕ) (cols : List (Col × ℕ)) (conds : List Cond)
    (t : ℕ) (listed : List (List ℕ × Summed)) : Type 0 where
  pub keys : Keys
  pub meeting : AreMeeting rows table cols conds t keys
  pub in_order : IsStrictlySortedBy (slice_cmp nat_cmp) (keys_of keys)
  pub sums : listed ≡ summed_up cols t keys
