-- What becomes of a table's rows where the rows in a key's place change.
use Rattle.std.proofs.Common.{◌≡◌, ℕ, List, ◌∷◌, [], sym, ◌∙◌, ap}
use Rattle.std.proofs.Common.{subst, Ok, Err, OnOk, OnErr, Bool, true, false, cond}
use Rattle.std.specs.Prelude.{Option, Some, None, Result, MatchBool, slice_set}
use Rattle.std.specs.Ordering.{nat_cmp}
use Rattle.std.specs.Cmp.Lexicographic.{slice_cmp}
use Rattle.std.specs.Map.{keys_of, lookup, set_value, remove_entry}
use Rattle.std.specs.BTreeMap.{insert_entry, is_at}
use Rattle.agg_types.specs.declared.no_memory.NoMemory.{NoMemory}
use Rattle.place_index.specs.Places.{item_at, key_at, value_at, laid, revalued, AreDistinct}
use Rattle.place_index.specs.Places.{IsAbsent, in_order}
use Rattle.peer_rows.specs.declared.row.Row.{Row}
use Rattle.peer_rows.specs.Peers.{ArePeers}
use Rattle.peer_rows.specs.Places.{Places, Keys}
use Rattle.peer_rows.specs.Table.{spot_cmp, rows_in, EachPeerOnce}
use Rattle.peer_rows.proofs.Keying.{lookup_held, lookup_not_held, put_held, take_held}
use Rattle.peer_rows.proofs.Keying.{take_last, put_new}
use Rattle.peer_rows.proofs.Keying.{once-set_value, once-insert_entry, once-remove_entry}
use Rattle.peer_rows.proofs.InTime.{PeerRows}
use Rattle.place_index.proofs.Ordered.{at_key, sorted-in_order, in_order-set, in_order-laid}
use Rattle.place_index.proofs.Ordered.{in_order-gone, lookup-held, lookup-absent, value_of_item}

-- the value that a key has already changes nothing
set_value-held : (test : List ℕ → Bool) (es : Keys) (rows : PeerRows)
    → lookup test es ≡ Some rows → set_value test es rows ≡ es
set_value-held test [] rows found = cc
set_value-held test (e ∷ es) rows found = by (set_value-held test es rows) (test e.0) found
  where
    by : (lookup test es ≡ Some rows → set_value test es rows ≡ es) → (b : Bool)
        → cond b (Some e.1) (lookup test es) ≡ Some rows
        → cond b ((e.0, rows) ∷ es) (e ∷ set_value test es rows) ≡ e ∷ es
    by more true is = let value : rows ≡ e.1 = cc in ap (λ v. (e.0, v) ∷ es) value
    by more false is = ap (λ l. e ∷ l) (more is)

module _ (places : Places) (key : List ℕ) where
  -- a key that no place holds has no rows
  pub none-shown : IsAbsent places key → lookup (at_key key) (in_order places) ≡ None
  none-shown absent = lookup-absent places key absent

  pub no_peer-shown : (peer : ℕ) → IsAbsent places key
      → lookup (is_at (spot_cmp (key, peer))) (rows_in (in_order places)) ≡ None
  no_peer-shown peer absent =
      lookup_not_held (in_order places) key peer (lookup-absent places key absent)

  -- the first row of a new key
  pub new-shown : (peer : ℕ) (row : Row) (fs : Keys) → IsAbsent places key
      → fs ≡ insert_entry (slice_cmp nat_cmp) (in_order places) key ((peer, row) ∷ [])
      → rows_in fs ≡ insert_entry spot_cmp (rows_in (in_order places)) (key, peer) row
  new-shown peer row fs absent is = ap rows_in is
      ∙ put_new (in_order places) key peer row (sorted-in_order places)
      (lookup-absent places key absent)

  pub new_once-shown : (peer : ℕ) (row : Row) (fs : Keys) → EachPeerOnce (in_order places)
      → fs ≡ insert_entry (slice_cmp nat_cmp) (in_order places) key ((peer, row) ∷ [])
      → EachPeerOnce fs
  new_once-shown peer row fs once is = subst (λ (keys : Keys). EachPeerOnce keys) (sym is)
      (once-insert_entry (in_order places) key peer row once)

  module _ (d : AreDistinct places) (at : ℕ) (own : key_at places at ≡ Some key) where
    -- the rows of a key are those in its place
    pub value-shown : lookup (at_key key) (in_order places) ≡ value_at places at
    value-shown =
        let there = value_of_item (item_at places at) key own in
        lookup-held places at key there.0 d own there.1 ∙ sym there.1

    pub gone-shown : in_order (slice_set places at None)
        ≡ remove_entry (at_key key) (in_order places)
    gone-shown = in_order-gone places at key d own

    module _ (rows : PeerRows) (value : value_at places at ≡ Some rows) where
      pub rows-shown : lookup (at_key key) (in_order places) ≡ Some rows
      rows-shown = lookup-held places at key rows d own value

      pub peers-shown : (peer : ℕ) → lookup (is_at (spot_cmp (key, peer)))
          (rows_in (in_order places)) ≡ lookup (is_at (nat_cmp peer)) rows
      peers-shown peer =
          lookup_held (in_order places) key peer rows (sorted-in_order places) rows-shown

      -- the last row of a key is taken out
      pub last-shown : (peer : ℕ) → keys_of rows ≡ peer ∷ []
          → rows_in (in_order (slice_set places at None))
          ≡ remove_entry (is_at (spot_cmp (key, peer))) (rows_in (in_order places))
      last-shown peer last = ap rows_in gone-shown
          ∙ take_last (in_order places) key peer rows (sorted-in_order places) rows-shown last

      pub last_value-shown : (peer : ℕ) (result : Option Row) → keys_of rows ≡ peer ∷ []
          → result ≡ lookup (is_at (nat_cmp peer)) rows
          → result ≡ lookup (is_at (spot_cmp (key, peer))) (rows_in (in_order places))
      last_value-shown peer result last is = is ∙ sym (peers-shown peer)

      pub gone_once-shown : EachPeerOnce (in_order places)
          → EachPeerOnce (in_order (slice_set places at None))
      gone_once-shown once = subst (λ (keys : Keys). EachPeerOnce keys) (sym gone-shown)
          (once-remove_entry (at_key key) (in_order places) once)

      module _ (new : PeerRows) where
        changed : in_order (revalued places at new)
            ≡ set_value (at_key key) (in_order places) new
        changed = in_order-set places at key rows new d own rows-shown

        same : new ≡ rows → in_order (revalued places at new) ≡ in_order places
        same is = changed ∙ ap (λ l. set_value (at_key key) (in_order places) l) is
            ∙ set_value-held (at_key key) (in_order places) rows rows-shown

        pub put-shown : (peer : ℕ) (row : Row) (result : Result (Option Row) NoMemory)
            → OnOk result (new ≡ insert_entry nat_cmp rows peer row)
            → OnOk result (rows_in (in_order (revalued places at new))
            ≡ insert_entry spot_cmp (rows_in (in_order places)) (key, peer) row)
        put-shown peer row (Ok old) put = ap rows_in changed
            ∙ put_held (in_order places) key peer rows new row (sorted-in_order places)
            rows-shown put
        put-shown peer row (Err e) put = put

        pub refused-shown : (result : Result (Option Row) NoMemory) → OnErr result (new ≡ rows)
            → OnErr result (in_order (revalued places at new) ≡ in_order places)
        refused-shown (Ok old) is = is
        refused-shown (Err e) is = same is

        pub exchanged-shown : (peer : ℕ) (row : Row) (found : Bool)
            → MatchBool found (new ≡ insert_entry nat_cmp rows peer row) (new ≡ rows)
            → MatchBool found (rows_in (in_order (revalued places at new))
            ≡ insert_entry spot_cmp (rows_in (in_order places)) (key, peer) row)
            (in_order (revalued places at new) ≡ in_order places)
        exchanged-shown peer row true put = put-shown peer row (Ok None) put
        exchanged-shown peer row false is = same is

        pub once-shown : EachPeerOnce (in_order places) → ArePeers new
            → EachPeerOnce (in_order (revalued places at new))
        once-shown once are = subst (λ (keys : Keys). EachPeerOnce keys) (sym changed)
            (once-set_value (at_key key) (in_order places) new once are)

        pub take-shown : (peer : ℕ) → new ≡ remove_entry (is_at (nat_cmp peer)) rows
            → rows_in (in_order (revalued places at new))
            ≡ remove_entry (is_at (spot_cmp (key, peer))) (rows_in (in_order places))
        take-shown peer taken = ap rows_in changed
            ∙ take_held (in_order places) key peer rows new (sorted-in_order places)
            rows-shown taken

-- a key that was copied is laid into a place, once room was made
pub absent-moved : (old mid : Places) (key own : List ℕ) → mid ≡ old → own ≡ key
    → IsAbsent old key → IsAbsent mid own
absent-moved old mid key own same_places same_key absent = λ at is.
    absent at (ap (λ (l : Places). key_at l at) (sym same_places) ∙ is ∙ ap Some same_key)

pub laid-shown : (old mid new : Places) (at : ℕ) (key own : List ℕ) (rows one : PeerRows)
    → mid ≡ old → own ≡ key → rows ≡ one → IsAbsent old key → item_at mid at ≡ None
    → new ≡ laid mid at (Some (own, rows))
    → in_order new ≡ insert_entry (slice_cmp nat_cmp) (in_order old) key one
laid-shown old mid new at key own rows one same_places same_key same_rows absent empty is =
    ap in_order is
    ∙ ap (λ (l : Places). in_order (laid l at (Some (own, rows)))) same_places
    ∙ ap (λ k. in_order (laid old at (Some (k, rows)))) same_key
    ∙ ap (λ r. in_order (laid old at (Some (key, r)))) same_rows
    ∙ in_order-laid old at key one absent
    (ap (λ (l : Places). item_at l at) (sym same_places) ∙ empty)

-- a refused row leaves the keys as they were
pub same_once : (old new : Places) → new ≡ old → EachPeerOnce (in_order old)
    → EachPeerOnce (in_order new)
same_once old new same once = subst (λ (l : Places). EachPeerOnce (in_order l)) (sym same) once

-- what holds of a refusal
pub on_err : {A E P : Type 0} (r : Result A E) → P → OnErr r P
on_err (Ok x) p = tt
on_err (Err e) p = p
