-- Rows that are taken out since they have ended.
use Rattle.std.proofs.Common.{◌≡◌, ℕ, zero, suc, ◌+◌, ◌-◌, ◌<◌, ◌≤◌, Bool, true, false, cond, ◌||◌}
use Rattle.std.proofs.Common.{List, [], ◌∷◌, ◌++◌, length, Option}
use Rattle.std.proofs.Common.{Some, None, Ordering, refl, ap, sym}
use Rattle.std.proofs.Common.{◌∙◌, subst, arith, inl, inr, get_or, set, slice_get}
use Rattle.std.proofs.lemmas.Bool.{cases_lt, cases_Bool, lt-ltb}
use Rattle.std.proofs.lemmas.Bool.{le-leb, true≢false, false≢true}
use Rattle.std.proofs.lemmas.List.{get_or_past}
use Rattle.std.proofs.lemmas.Option.{none-some, same_Some}
use Rattle.std.specs.BTreeMap.{insert_entry, is_at}
use Rattle.std.specs.Cmp.Lexicographic.{slice_cmp}
use Rattle.agg_types.specs.RowKey.{row_key_cmp}
use Rattle.agg_types.specs.declared.row_key.RowKey.{RowKey}
use Rattle.std.specs.List.{AllByRecursion}
use Rattle.std.specs.List.Sorted.{IsStrictlySortedBy}
use Rattle.std.specs.Map.{keys_of, lookup, remove_entry}
use Rattle.std.specs.Option.{option_map}
use Rattle.std.specs.Ordering.{match_ordering, nat_cmp}
use Rattle.std.specs.Prelude.{IsSome, ◌⊎◌, filter, is_some, map, slice_set, unwrap_or}
use Rattle.std.specs.declared.cmp.Ordering.TheVariants.{Less, Equal, Greater}
use Rattle.place_index.specs.Places.{AreDistinct, item_at, key_at, revalued, value_at, in_order}
use Rattle.place_plans.specs.Plans.{is_due}
use Rattle.peer_rows.specs.Ends.{AreLive, EndFrom, IsFrom, IsInTime, IsPlanned}
use Rattle.peer_rows.specs.Ends.{HasEnded, IsRowGone, StayLive, any_ends, end_of, is_behind}
use Rattle.peer_rows.specs.Ends.{ended, lives_at, rows_at}
use Rattle.peer_rows.specs.Rows.{AreTables, numbered, place, placed}
use Rattle.peer_rows.specs.Peers.{ArePeers}
use Rattle.peer_rows.specs.Places.{Keys, Places}
use Rattle.peer_rows.specs.Spread.{part, spread}
use Rattle.peer_rows.specs.Table.{IsKept, Spot, TableRows, rows_in, spot, spot_cmp}
use Rattle.peer_rows.specs.declared.row.Row.{Row}
use Rattle.peer_rows.proofs.InTime.{PeerRows, rows_value}
use Rattle.peer_rows.proofs.Kept.{counted_some, is_there, kept-take}
use Rattle.place_index.proofs.Ordered.{sorted-in_order}
use Rattle.peer_rows.proofs.Selecting.{filter-append}
use Rattle.place_index.proofs.Sorted.{sorted-filter}
use Rattle.peer_rows.proofs.Shown.{gone_once-shown, last-shown, once-shown, peers-shown, take-shown}

pub key_of : (places : Places) (at : ℕ) (rows : PeerRows) → value_at places at ≡ Some rows
    → (key : List ℕ) × (key_at places at ≡ Some key)
key_of places at rows value = by (item_at places at) value
  where
    by : (item : Option (List ℕ × PeerRows)) → option_map (λ i. i.1) item ≡ Some rows
        → (key : List ℕ) × (option_map (λ (i : List ℕ × PeerRows). i.0) item ≡ Some key)
    by None is = absurd (none-some rows is)
    by (Some i) is = (i.0, refl)

pub held_value : (places : Places) (at : ℕ) (test : ℕ → Bool)
    → IsSome (lookup test (rows_at places at))
    → (rows : PeerRows) × (value_at places at ≡ Some rows)
held_value places at test held = by (value_at places at) held
  where
    by : (o : Option PeerRows) → IsSome (lookup test (unwrap_or o []))
        → (rows : PeerRows) × (o ≡ Some rows)
    by None held = absurd (false≢true held)
    by (Some rows) held = (rows, refl)

pub length_removed : {K X : Type 0} (test : K → Bool) (es : List (K × X)) (v : X)
    → lookup test es ≡ Some v → length (remove_entry test es) + 1 ≡ length es
length_removed test [] v found = absurd (none-some v found)
length_removed {K} {X} test (e ∷ es) v found = by (length_removed test es v) (test e.0) found
  where
    by : (lookup test es ≡ Some v → length (remove_entry test es) + 1 ≡ length es) → (b : Bool)
        → cond b (Some e.1) (lookup test es) ≡ Some v
        → length (cond b es (e ∷ remove_entry test es)) + 1 ≡ length (e ∷ es)
    by more true is = omega arith
    by more false is = let rest = more is in omega arith

-- ---- the rows that live
pub filter_gone : {K X : Type 0} (test : K → Bool) (lives : X → Bool) (es : List (K × X)) (old : X)
    → lookup test es ≡ Some old → lives old ≡ false
    → filter (λ e. lives e.1) (remove_entry test es) ≡ filter (λ e. lives e.1) es
filter_gone test lives [] old found ended = absurd (none-some old found)
filter_gone {K} {X} test lives (e ∷ es) old found ended =
    by (filter_gone test lives es old) (test e.0) found
  where
    by : (lookup test es ≡ Some old → lives old ≡ false
        → filter (λ f. lives f.1) (remove_entry test es) ≡ filter (λ f. lives f.1) es) → (b : Bool)
        → cond b (Some e.1) (lookup test es) ≡ Some old
        → filter (λ f. lives f.1) (cond b es (e ∷ remove_entry test es))
        ≡ cond (lives e.1) (e ∷ filter (λ f. lives f.1) es) (filter (λ f. lives f.1) es)
    by more true is =
        let dead : lives e.1 ≡ false = ap lives (same_Some e.1 old is) ∙ ended in
        sym (ap (λ b. cond b (e ∷ filter (λ f. lives f.1) es) (filter (λ f. lives f.1) es)) dead)
    by more false is = ap (λ fs. cond (lives e.1) (e ∷ fs) fs) (more is ended)

-- one of the rows in a place is counted down and taken out
module _ (places : Places) (counts : List ℕ) (at peer : ℕ) (kept : IsKept (in_order places) counts)
    (d : AreDistinct places)
    (held : IsSome (lookup (is_at (nat_cmp peer)) (rows_at places at))) where
  value : (rows : PeerRows) × (value_at places at ≡ Some rows)
  value = held_value places at (is_at (nat_cmp peer)) held

  module _ (rows : PeerRows) (is : value_at places at ≡ Some rows) where
    there : (old : Row) × (lookup (is_at (nat_cmp peer)) rows ≡ Some old)
    there = is_there (lookup (is_at (nat_cmp peer)) rows)
        (subst (λ (rs : PeerRows). IsSome (lookup (is_at (nat_cmp peer)) rs))
        (rows_value places at rows is) held)

    own : (key : List ℕ) × (key_at places at ≡ Some key)
    own = key_of places at rows is

    found : lookup (is_at (spot_cmp (own.0, peer))) (rows_in (in_order places)) ≡ Some there.0
    found = peers-shown places own.0 d at own.1 rows is peer ∙ there.1

    some : 1 ≤ get_or counts peer 0
    some = counted_some (in_order places) counts own.0 peer there.0 kept found

    within : peer < length counts
    within = elim (cases_lt peer (length counts)) [
      | inl below ↦ below
      | inr past ↦ let none = get_or_past counts peer 0 past in let one = some in
          absurd (omega arith)
    ]

    pub gone_last : keys_of rows ≡ peer ∷ [] → IsRowGone at peer places (slice_set places at None)
    gone_last only = λ key mine. last-shown places key d at mine rows is peer only

    pub kept_last : keys_of rows ≡ peer ∷ []
        → IsKept (in_order (slice_set places at None)) (set counts peer (get_or counts peer 0 - 1))
    kept_last only = kept-take (in_order places) (in_order (slice_set places at None)) counts own.0
        peer kept (sorted-in_order (slice_set places at None))
        (gone_once-shown places own.0 d at own.1 rows is kept.once) there.0
        (gone_last only own.0 own.1) found within

    module _ (later : PeerRows) (taken : later ≡ remove_entry (is_at (nat_cmp peer)) rows) where
      pub gone_one : IsRowGone at peer places (revalued places at later)
      gone_one = λ key mine. take-shown places key d at mine rows is later peer taken

      pub kept_one : ArePeers later → IsKept (in_order (revalued places at later))
          (set counts peer (get_or counts peer 0 - 1))
      kept_one are = kept-take (in_order places) (in_order (revalued places at later)) counts own.0
          peer kept (sorted-in_order (revalued places at later))
          (once-shown places own.0 d at own.1 rows is later kept.once are) there.0
          (gone_one own.0 own.1) found within

      pub fewer_one : length later < length rows
      fewer_one = let less = length_removed (is_at (nat_cmp peer)) rows there.0 there.1 in
          let same = ap length taken in omega arith

  only_value : keys_of (rows_at places at) ≡ peer ∷ [] → keys_of value.0 ≡ peer ∷ []
  only_value only = sym (ap (λ (rs : PeerRows). keys_of rs) (rows_value places at value.0 value.1))
      ∙ only

  pub row_kept : keys_of (rows_at places at) ≡ peer ∷ []
      → IsKept (in_order (slice_set places at None)) (set counts peer (get_or counts peer 0 - 1))
  row_kept only = kept_last value.0 value.1 (only_value only)

  pub row_gone : keys_of (rows_at places at) ≡ peer ∷ []
      → IsRowGone at peer places (slice_set places at None)
  row_gone only = gone_last value.0 value.1 (only_value only)

  -- those that live stay, as one goes that has ended
  pub stay_live : (new : Places) (t : ℕ) → IsRowGone at peer places new
      → HasEnded t (rows_at places at) peer → StayLive t places new
  stay_live new t gone h =
      let key = key_of places at value.0 value.1 in
      let found : lookup (is_at (spot_cmp (key.0, peer))) (rows_in (in_order places))
      ≡ Some h.row = peers-shown places key.0 d at key.1 value.0 value.1 peer
      ∙ ap (λ (rs : PeerRows). lookup (is_at (nat_cmp peer)) rs)
      (sym (rows_value places at value.0 value.1)) ∙ h.found in
      ap (λ (es : List (Spot × Row)). filter (λ e. lives_at t e.1) es) (gone key.0 key.1)
      ∙ filter_gone (is_at (spot_cmp (key.0, peer))) (lives_at t) (rows_in (in_order places))
      h.row found h.ended

  pub can_count : 1 ≤ get_or counts peer 0
  can_count = some value.0 value.1

  pub in_counts : peer < length counts
  in_counts = within value.0 value.1

pub filter_all : {K X : Type 0} (lives : X → Bool) (es : List (K × X))
    → AllByRecursion (λ e. lives e.1 ≡ true) es → filter (λ e. lives e.1) es ≡ es
filter_all lives [] all = refl
filter_all lives (e ∷ es) all =
    ap (λ b. cond b (e ∷ filter (λ f. lives f.1) es) (filter (λ f. lives f.1) es)) all.0
    ∙ ap (λ fs. e ∷ fs) (filter_all lives es all.1)

-- rows that live in each place live by key too
abbrev KeysLive : ℕ → Keys → Type 0
KeysLive t keys = AllByRecursion (λ k. AreLive t k.1) keys

live_inserted : (t : ℕ) (es : Keys) (key : List ℕ) (rows : PeerRows) → KeysLive t es
    → AreLive t rows → KeysLive t (insert_entry (slice_cmp nat_cmp) es key rows)
live_inserted t [] key rows all mine = (mine, tt)
live_inserted t (e ∷ es) key rows all mine =
    by (live_inserted t es key rows all.1 mine) (slice_cmp nat_cmp key e.0)
  where
    by : KeysLive t (insert_entry (slice_cmp nat_cmp) es key rows) → (o : Ordering)
        → KeysLive t (match_ordering o ((key, rows) ∷ e ∷ es) ((e.0, rows) ∷ es)
        (e ∷ insert_entry (slice_cmp nat_cmp) es key rows))
    by more Less = (mine, all)
    by more Equal = (mine, all.1)
    by more Greater = (all.0, more)

live_in_order : (t : ℕ) (places : Places) → ((p : ℕ) → AreLive t (rows_at places p))
    → KeysLive t (in_order places)
live_in_order t [] live = tt
live_in_order t (None ∷ places) live = live_in_order t places (λ p. live (suc p))
live_in_order t (Some item ∷ places) live =
    live_inserted t (in_order places) item.0 item.1
    (live_in_order t places (λ p. live (suc p))) (live zero)

live_part : (t : ℕ) (key : List ℕ) (rows : PeerRows) (rest : List (Spot × Row)) → AreLive t rows
    → AllByRecursion (λ e. lives_at t e.1 ≡ true) rest
    → AllByRecursion (λ e. lives_at t e.1 ≡ true) (part spot key rows ++ rest)
live_part t key [] rest mine all = all
live_part t key (r ∷ rows) rest mine all = (mine.0, live_part t key rows rest mine.1 all)

live_rows : (t : ℕ) (es : Keys) → KeysLive t es
    → AllByRecursion (λ e. lives_at t e.1 ≡ true) (rows_in es)
live_rows t [] all = tt
live_rows t (e ∷ es) all = live_part t e.0 e.1 (rows_in es) all.0 (live_rows t es all.1)

-- once all rows live, and as many as before, those that lived are left
pub all_live : (t : ℕ) (old new : Places) → StayLive t old new
    → ((p : ℕ) → AreLive t (rows_at new p))
    → rows_in (in_order new) ≡ filter (λ e. lives_at t e.1) (rows_in (in_order old))
all_live t old new stay live =
    sym (filter_all (lives_at t) (rows_in (in_order new))
    (live_rows t (in_order new) (live_in_order t new live))) ∙ stay

-- ---- what is not due lives
behind_from : (o : Option ℕ) (t m : ℕ) → t < m → IsFrom m o → is_behind t o ≡ true
behind_from None t m past from = refl
behind_from (Some end) t m past from = lt-ltb t end (omega arith)

live_from : (t m : ℕ) (rows : PeerRows) → t < m → EndFrom m rows → AreLive t rows
live_from t m [] past from = tt
live_from t m (r ∷ rows) past from =
    (behind_from (end_of r.1) t m past from.0, live_from t m rows past from.1)

endless : (t : ℕ) (o : Option ℕ) (rest : Bool) → (is_some o || rest) ≡ false
    → (is_behind t o ≡ true) × (rest ≡ false)
endless t None rest none = (refl, none)
endless t (Some end) rest none = absurd (true≢false none)

live_endless : (t : ℕ) (rows : PeerRows) → any_ends rows ≡ false → AreLive t rows
live_endless t [] none = tt
live_endless t (r ∷ rows) none =
    let both = endless t (end_of r.1) (any_ends rows) none in
    (both.0, live_endless t rows both.1)

-- rows that are looked at in time live, or are due
pub live_or_due : (t : ℕ) (rows : PeerRows) (plan : Option ℕ) → IsPlanned false rows plan
    → AreLive t rows ⊎ (is_due t plan ≡ true)
live_or_due t rows plan was = elim (cases_Bool (any_ends rows)) [
  | inl some ↦ by plan (was.in_time refl some)
  | inr none ↦ inl (live_endless t rows none)
]
  where
    by : (plan : Option ℕ) → IsInTime rows plan → AreLive t rows ⊎ (is_due t plan ≡ true)
    by None from = absurd from
    by (Some m) from = elim (cases_lt t m) [
      | inl past ↦ inl (live_from t m rows past from)
      | inr due ↦ inr (le-leb m t due)
    ]

-- ---- all places, and all tables
pub rows_past : (places : Places) (p : ℕ) → length places ≤ p → rows_at places p ≡ []
rows_past places p past =
    ap (λ i. unwrap_or (option_map (λ (i : List ℕ × PeerRows). i.1) i) [])
    (get_or_past places p None past)

pub same_list : {X : Type 0} (xs ys : List X) → ((i : ℕ) → slice_get xs i ≡ slice_get ys i)
    → xs ≡ ys
same_list [] [] same = refl
same_list [] (y ∷ ys) same = absurd (none-some y (same zero))
same_list (x ∷ xs) [] same = absurd (none-some x (sym (same zero)))
same_list {X} (x ∷ xs) (y ∷ ys) same =
    ap (λ (z : X). z ∷ xs) (same_Some x y (same zero))
    ∙ ap (λ zs. y ∷ zs) (same_list xs ys (λ i. same (suc i)))

filter_part : {K P Q X : Type 0} (pair : K → P → Q) (lives : X → Bool) (k : K)
    (rows : List (P × X)) → filter (λ e. lives e.1) (part pair k rows)
    ≡ part pair k (filter (λ r. lives r.1) rows)
filter_part pair lives k [] = refl
filter_part {K} {P} {Q} {X} pair lives k (r ∷ rows) =
    by (filter_part pair lives k rows) (lives r.1)
  where
    by : filter (λ e. lives e.1) (part pair k rows) ≡ part pair k (filter (λ q. lives q.1) rows)
        → (b : Bool)
        → cond b ((pair k r.0, r.1) ∷ filter (λ e. lives e.1) (part pair k rows))
        (filter (λ e. lives e.1) (part pair k rows))
        ≡ part pair k (cond b (r ∷ filter (λ q. lives q.1) rows) (filter (λ q. lives q.1) rows))
    by more true = ap (λ rest. (pair k r.0, r.1) ∷ rest) more
    by more false = more

spread_ended : (t n : ℕ) (ts : List TableRows) → spread place (numbered n (map (ended t) ts))
    ≡ filter (λ e. lives_at t e.1) (spread place (numbered n ts))
spread_ended t n [] = refl
spread_ended t n (x ∷ ts) =
    ap (λ (es : List (RowKey × Row)). es ++ spread place (numbered (n + 1) (map (ended t) ts)))
    (sym (filter_part place (lives_at t) n x.entries))
    ∙ ap (λ (es : List (RowKey × Row)). filter (λ e. lives_at t e.1) (part place n x.entries) ++ es)
    (spread_ended t (n + 1) ts)
    ∙ sym (filter-append (λ e. lives_at t e.1) (part place n x.entries)
    (spread place (numbered (n + 1) ts)))

pub placed_ended : (t : ℕ) (ts : List TableRows)
    → placed (map (ended t) ts) ≡ filter (λ e. lives_at t e.1) (placed ts)
placed_ended t ts = spread_ended t 0 ts

agree_ended : (t peers : ℕ) (ts : List TableRows) → AllByRecursion (λ x. x.peers ≡ peers) ts
    → AllByRecursion (λ x. x.peers ≡ peers) (map (ended t) ts)
agree_ended t peers [] agree = tt
agree_ended t peers (x ∷ ts) agree = (agree.0, agree_ended t peers ts agree.1)

pub tables_ended : (t peers : ℕ) (ts : List TableRows) → AreTables peers ts
    → AreTables peers (map (ended t) ts)
tables_ended t peers ts are = record {
  agree = agree_ended t peers ts are.agree;
  ordered = subst (λ (es : List (RowKey × Row)). IsStrictlySortedBy row_key_cmp (keys_of es))
      (sym (placed_ended t ts))
      (sorted-filter row_key_cmp (λ e. lives_at t e.1) (placed ts) are.ordered);
}
