-- A walk over all keys of a table finds its ranking.
use Rattle.std.proofs.Common.{◌≡◌, ℕ, Bool, ◌||◌, List, [], ◌∷◌, Option, None, Some}
use Rattle.std.proofs.Common.{is_some, length, map, take, zero, suc, ◌≤◌, refl, sym, ap, ◌∙◌, arith}
use Rattle.std.proofs.lemmas.List.{take_all}
use Rattle.std.specs.BTreeMap.{is_at}
use Rattle.std.specs.Cmp.Lexicographic.{slice_cmp}
use Rattle.std.specs.List.{AllByRecursion}
use Rattle.std.specs.Map as maps
use Rattle.std.specs.Option.{option_map}
use Rattle.std.specs.Ordering.{nat_cmp}
use Rattle.std.proofs.lemmas.Map.Keys.{IsDistinct-from_sorted}
use Rattle.std.proofs.lemmas.Map.Made.{is_some-lookup}
use Rattle.agg_types.specs.declared.column.Col.{Col}
use Rattle.agg_types.specs.declared.config.Rank.{Rank}
use Rattle.fleet_model.specs.Answers.{key_value, keys_of}
use Rattle.fleet_model.specs.Keys.{AreLiveAt, Rows, has_live, key_rows, worth_of}
use Rattle.fleet_model.specs.Laws.{IsKeyList, is_key_among}
use Rattle.fleet_model.specs.Ranking.{put_in_order, rank_cmp, ranked, ranking, with_value}
use Rattle.fleet_model.specs.Sound.{IsSound}
use Rattle.fleet_model.specs.State.{State}
use Rattle.fleet_model.specs.Values.{cols_of}
use Rattle.fleet_model.proofs.KeyRows.{live-rows, value-rows}
use Rattle.fleet_model.proofs.Sets.{key_lists}
use Rattle.peer_rows.specs.Places.{Keys}
use Rattle.peer_rows.specs.Walk.{if_any}
use Rattle.peer_rows.specs.declared.row.Row.{Row}
use Rattle.ranked.specs.Best.{BestKeys, with_offered}
use Rattle.ranked.specs.Walk.{put_all}
use Rattle.ranked.proofs.Sorting.{same_ranking}
use Rattle.ranked.proofs.Walking.{take_put_all}
use Rattle.book_machine.specs.Ranks.{best_after, each_worth}
use Rattle.book_rows.specs.Shown.{of_peer, rows_worth}
use Rattle.book_rows.specs.Store.{IsEachKeyOf}
use Rattle.book_machine.proofs.Walked.{walk_rows}
use Rattle.book_rows.proofs.KeysMeeting.{live_rows}
use Rattle.book_rows.proofs.Reading.{worth_shown}

abbrev PeerRows : Type 0
PeerRows = List (ℕ × Row)

-- ---- as a key is offered
pub offered_more : (best : BestKeys) (cols : List (Col × ℕ)) (col : Col) (t : ℕ)
    (e : List ℕ × PeerRows) (rest : Keys)
    → best_after (with_offered (e.0, rows_worth cols col t e.1) best) cols col t rest
    ≡ best_after best cols col t (e ∷ rest)
unfolding put_all
offered_more best cols col t e rest =
    take_put_all best.room (put_in_order rank_cmp (e.0, rows_worth cols col t e.1) best.keys)
    (each_worth cols col t rest)

-- and once none is left
pub offered_all : (best : BestKeys) (cols : List (Col × ℕ)) (col : Col) (t : ℕ)
    → best_after best cols col t [] ≡ take best.room best.keys
unfolding put_all
offered_all best cols col t = refl

-- ---- what was offered
-- a key of a walk has a live row, and no other key has one
live_there : (t : ℕ) (shown : PeerRows → Rows) (o : Option PeerRows) (own : Rows)
    → option_map shown o ≡ if_any own → AreLiveAt t own → is_some o ≡ has_live own t
live_there t shown None [] is alive = refl
live_there t shown None (row ∷ own) is alive = cc
live_there t shown (Some found) [] is alive = cc
live_there t shown (Some found) (row ∷ own) is alive =
    sym (ap (λ (b : Bool). b || has_live own t) alive.0)

same_keys : (state : State) (table : ℕ) (walk : Keys) → IsSound state
    → IsEachKeyOf state.rows table walk → (q : List ℕ)
    → is_key_among q (maps.keys_of walk) ≡ is_key_among q (keys_of state table)
same_keys state table walk sound each q =
    let all : IsKeyList state table (keys_of state table) = key_lists state table sound.ordered in
    sym (is_some-lookup (is_at (slice_cmp nat_cmp q)) walk)
    ∙ live_there state.moment (map (of_peer table q))
    (maps.lookup (is_at (slice_cmp nat_cmp q)) walk) (key_rows state.rows table q) (each.exact q)
    (live_rows state table [] q sound.live)
    ∙ sym (live-rows state.rows table q state.moment)
    ∙ sym (all.exact q)

-- each is offered with its value
valued : (state : State) (table : ℕ) (col : Col) (walk : Keys)
    → AllByRecursion (λ e. map (of_peer table e.0) e.1 ≡ key_rows state.rows table e.0) walk
    → each_worth (cols_of state.config.tables table) col state.moment walk
    ≡ map (with_value state table col) (maps.keys_of walk)
valued state table col [] rows = refl
valued state table col (e ∷ walk) rows =
    let cols = cols_of state.config.tables table in
    let worth : rows_worth cols col state.moment e.1 ≡ key_value state table e.0 col state.moment =
    worth_shown table e.0 cols col state.moment e.1
    ∙ ap (λ (own : Rows). worth_of cols own col state.moment) rows.0
    ∙ sym (value-rows cols state.rows table e.0 col state.moment) in
    λ i. (e.0, worth i) ∷ valued state table col walk rows.1 i

pub ranking_found : (state : State) (table : ℕ) (col : Col) (walk : Keys) → IsSound state
    → IsEachKeyOf state.rows table walk
    → put_all [] (each_worth (cols_of state.config.tables table) col state.moment walk)
    ≡ ranking state table col
unfolding ranking
ranking_found state table col walk sound each =
    let all : IsKeyList state table (keys_of state table) = key_lists state table sound.ordered in
    ap (put_all []) (valued state table col walk (walk_rows state.rows table walk each))
    ∙ same_ranking (λ key. key_value state table key col state.moment) (maps.keys_of walk)
    (keys_of state table) each.once
    (IsDistinct-from_sorted (slice_cmp nat_cmp) (keys_of state table) all.in_order)
    (same_keys state table walk sound each)

-- no key, where a walk has none
take_none : (n : ℕ) → let none : List (List ℕ × ℕ) = [] in take n none ≡ none
take_none zero = refl
take_none (suc n) = refl

pub none_ranked : (state : State) (table : ℕ) (col : Col) (n : ℕ) → IsSound state
    → IsEachKeyOf state.rows table [] → [] ≡ take n (ranking state table col)
unfolding put_all
none_ranked state table col n sound each =
    sym (take_none n) ∙ ap (take n) (ranking_found state table col [] sound each)

-- the best of all keys are the first of the ranking
pub best_found : (state : State) (table : ℕ) (col : Col) (n t : ℕ) (cols : List (Col × ℕ))
    (walk : Keys) (start best : BestKeys) → IsSound state → IsEachKeyOf state.rows table walk
    → t ≡ state.moment → cols ≡ cols_of state.config.tables table → start.keys ≡ []
    → start.room ≡ n → best.room ≡ start.room
    → take start.room best.keys ≡ best_after start cols col t walk
    → length best.keys ≤ best.room → best.keys ≡ take n (ranking state table col)
best_found state table col n t cols walk start best sound each now of none room same after few =
    sym (take_all start.room best.keys (omega (arith, few, same)))
    ∙ after
    ∙ (λ i. take (room i) (put_all (none i) (each_worth (of i) col (now i) walk)))
    ∙ ap (take n) (ranking_found state table col walk sound each)

-- the first ones of it are a ranked list
pub ranked_from : (state : State) (rank : Rank)
    → take rank.n (ranking state rank.table rank.col) ≡ ranked state rank
unfolding ranked
ranked_from state rank = refl
