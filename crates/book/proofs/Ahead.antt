-- A filter judges the keys of a walk one by one.
use Rattle.std.proofs.Common.{◌≡◌, ℕ, ◌≤◌, Bool, true, false, ◌||◌, List, [], ◌∷◌, Option, None}
use Rattle.std.proofs.Common.{Some, is_some, length, refl, sym, ap, ◌∙◌, subst}
use Rattle.std.specs.Prelude.{map}
use Rattle.std.specs.BTreeMap.{is_at}
use Rattle.std.specs.Cmp.{eq_by_cmp_equiv}
use Rattle.std.specs.Cmp.Lexicographic.{slice_cmp, nat_list_cmp_total}
use Rattle.std.specs.List.{AllByRecursion, IsDistinct, list_any}
use Rattle.std.specs.Map as maps
use Rattle.std.specs.Option.{option_map}
use Rattle.std.specs.Ordering.{eq_by_cmp, nat_cmp}
use Rattle.std.specs.Set.{is_member}
use Rattle.std.proofs.lemmas.List.{length-map}
use Rattle.std.proofs.lemmas.Map.Keys.{IsDistinct-head, IsDistinct-tail}
use Rattle.std.proofs.lemmas.Map.Made.{is_some-lookup, length-le_from_is_member}
use Rattle.agg_types.specs.declared.config.Filter.{Filter}
use Rattle.fleet_model.specs.Answers.{keys_of}
use Rattle.fleet_model.specs.Keys.{AreLiveAt, Rows, has_live, key_rows}
use Rattle.fleet_model.specs.Sound.{IsSound}
use Rattle.fleet_model.specs.State.{State}
use Rattle.fleet_model.specs.Values.{live_keys}
use Rattle.fleet_model.proofs.KeyRows.{live-rows}
use Rattle.fleet_model.proofs.Sets.{live_keys-exact}
use Rattle.peer_rows.specs.Places.{Keys}
use Rattle.peer_rows.specs.Walk.{if_any}
use Rattle.peer_rows.specs.declared.row.Row.{Row}
use Rattle.standing_filters.specs.Laws.{AddingBegins, AddingGoesOn}
use Rattle.standing_filters.specs.Verdicts.{out}
use Rattle.standing_filters.specs.Watched.{IsTouched, Watched, is_among, unheld, verdict_at}
use Rattle.standing_filters.proofs.Walking.{key_itself}
use Rattle.book.specs.Ahead.{AreAhead}
use Rattle.book_machine.specs.Flatness.{living_falls}
use Rattle.book_machine.specs.Foreseen.{living_within}
use Rattle.book.specs.Verdicts.{AreAll, AreJudged, IsJudged, living_in, sums_in}
use Rattle.book_rows.specs.Shown.{of_peer}
use Rattle.book_rows.specs.Store.{IsEachKeyOf}
use Rattle.book_rows.proofs.KeysMeeting.{live_rows}
use Rattle.book_machine.proofs.Walked.{walk_rows}

abbrev PeerRows : Type 0
PeerRows = List (ℕ × Row)

abbrev same : List ℕ → List ℕ → Bool
same = eq_by_cmp (slice_cmp nat_cmp)

none_of : {X : Type 0} (xs : List X) → None ≡ if_any xs → xs ≡ []
none_of [] is = refl
none_of (x ∷ xs) is = cc

-- a key that isn't in a walk has no row
unlisted : (rows : Rows) (table : ℕ) (walk : Keys) (key : List ℕ) → IsEachKeyOf rows table walk
    → list_any (is_at (slice_cmp nat_cmp key)) (maps.keys_of walk) ≡ false
    → key_rows rows table key ≡ []
unlisted rows table walk key each apart = none_of (key_rows rows table key)
    (by (maps.lookup (is_at (slice_cmp nat_cmp key)) walk)
    (is_some-lookup (is_at (slice_cmp nat_cmp key)) walk ∙ apart) (each.exact key))
  where
    by : (o : Option PeerRows) → is_some o ≡ false
        → option_map (map (of_peer table key)) o ≡ if_any (key_rows rows table key)
        → None ≡ if_any (key_rows rows table key)
    by None none is = is
    by (Some found) none is = cc

pub begun : AddingBegins → (state : State) (filtering : Filter) (walk : Keys)
    → IsEachKeyOf state.rows filtering.table walk
    → AreAhead state filtering.table walk (unheld filtering)
begun law state filtering walk each = record {
  once = each.once;
  rows = walk_rows state.rows filtering.table walk each;
  verdicts = law (sums_in state) (living_in state) state.moment filtering (maps.keys_of walk)
      (λ key t up. living_falls (key_rows state.rows filtering.table key) state.moment t up)
      (λ key apart. ap (λ (rs : Rows). living_within rs state.moment)
      (unlisted state.rows filtering.table walk key each apart));
}

-- the first of the keys ahead wasn't judged yet
pub first_out : (state : State) (table : ℕ) (e : List ℕ × PeerRows) (walk : Keys) (w : Watched)
    → AreAhead state table (e ∷ walk) w → verdict_at w.kept e.0 ≡ out
first_out state table e walk w ahead = ahead.verdicts.unjudged e.0
    (ap (λ (b : Bool). b || is_among (maps.keys_of walk) e.0) (key_itself e.0))

none_same : (key : List ℕ) (keys : List (List ℕ))
    → AllByRecursion (λ other. same key other ≡ false) keys → is_among keys key ≡ false
none_same key [] apart = refl
none_same key (other ∷ keys) apart =
    ap (λ (b : Bool). b || is_among keys key) apart.0 ∙ none_same key keys apart.1

-- and once it is, the others lie ahead
pub ahead_more : AddingGoesOn → (state : State) (table : ℕ) (e : List ℕ × PeerRows) (walk : Keys)
    (old new : Watched) → old.filter.table ≡ table → AreAhead state table (e ∷ walk) old
    → IsTouched (sums_in state) (living_in state) table e.0 state.moment old new
    → AreAhead state table walk new
ahead_more law state table e walk old new of ahead touched = record {
  once = IsDistinct-tail same e.0 (maps.keys_of walk) ahead.once;
  rows = ahead.rows.1;
  verdicts = law (sums_in state) (living_in state) state.moment e.0 (maps.keys_of walk) old new
      (none_same e.0 (maps.keys_of walk)
      (IsDistinct-head same e.0 (maps.keys_of walk) ahead.once)) ahead.verdicts
      (subst (λ (t : ℕ). IsTouched (sums_in state) (living_in state) t e.0 state.moment old new)
      (sym of) touched);
}

pub none_ahead : (state : State) (table : ℕ) (w : Watched) → AreAhead state table [] w
    → IsJudged state w
none_ahead state table w ahead = λ key. ahead.verdicts.judged key refl

-- ---- no key has a row
none_judged : AddingBegins → (state : State) → state.rows ≡ [] → (filters : List Filter)
    → AreJudged state (map unheld filters)
unfolding IsDistinct
none_judged law state empty [] = tt
none_judged law state empty (filtering ∷ filters) = (
  none_ahead state filtering.table (unheld filtering) (begun law state filtering []
      (subst (λ (rows : Rows). IsEachKeyOf rows filtering.table []) (sym empty)
      (record { once = tt; exact = λ key. refl }))),
  none_judged law state empty filters,
)

filters_unheld : (filters : List Filter)
    → map (λ (w : Watched). w.filter) (map unheld filters) ≡ filters
filters_unheld [] = refl
filters_unheld (filtering ∷ filters) = ap (λ fs. filtering ∷ fs) (filters_unheld filters)

pub all_unheld : AddingBegins → (state : State) (ws : List Watched) → state.rows ≡ []
    → ws ≡ map unheld state.config.filters → AreAll state ws
all_unheld law state ws empty is = subst (AreAll state) (sym is) (record {
  filters = filters_unheld state.config.filters;
  judged = none_judged law state empty state.config.filters;
})

-- ---- how many keys a walk has
some_live : (t : ℕ) (shown : PeerRows → Rows) (o : Option PeerRows) (own : Rows)
    → is_some o ≡ true → option_map shown o ≡ if_any own → AreLiveAt t own → has_live own t ≡ true
some_live t shown None own some is alive = cc
some_live t shown (Some found) [] some is alive = cc
some_live t shown (Some found) (row ∷ own) some is alive =
    ap (λ (b : Bool). b || has_live own t) alive.0

pub walk_few : (state : State) (table : ℕ) (walk : Keys) → IsSound state
    → IsEachKeyOf state.rows table walk → length walk ≤ length (keys_of state table)
unfolding keys_of
walk_few state table walk sound each =
    subst (λ (n : ℕ). n ≤ length (live_keys state.rows table state.moment))
    (length-map walk (λ (e : List ℕ × PeerRows). e.0))
    (length-le_from_is_member (eq_by_cmp_equiv nat_list_cmp_total) (maps.keys_of walk)
    (live_keys state.rows table state.moment) each.once live)
  where
    live : (q : List ℕ) → is_member same (maps.keys_of walk) q ≡ true
        → is_member same (live_keys state.rows table state.moment) q
        ≡ true
    live q among = live_keys-exact state.rows table state.moment q
        ∙ live-rows state.rows table q state.moment
        ∙ some_live state.moment (map (of_peer table q))
        (maps.lookup (is_at (slice_cmp nat_cmp q)) walk) (key_rows state.rows table q)
        (is_some-lookup (is_at (slice_cmp nat_cmp q)) walk ∙ among) (each.exact q)
        (live_rows state table [] q sound.live)
