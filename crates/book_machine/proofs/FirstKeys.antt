-- The keys that a ranked list finds by bounds are the first of its table's.
use Rattle.std.proofs.Common.{◌≡◌, ℕ, ◌<◌, ◌≤◌, Bool, true, false, not, ◌&&◌, nat_le, nat_lt}
use Rattle.std.proofs.Common.{List, [], ◌∷◌, ◌++◌, length, map, zero, suc, Option, None, Some}
use Rattle.std.proofs.Common.{is_some, refl, sym, ap, ◌∙◌, subst, arith, ⊎_elim, length-take}
use Rattle.std.specs.Prelude.{filter, min, take, slice_index_or}
use Rattle.std.specs.BTreeMap.{is_at}
use Rattle.std.specs.Cmp.Lexicographic.{slice_cmp}
use Rattle.std.specs.Map as maps
use Rattle.std.specs.Option.{IsSomeAnd, option_map}
use Rattle.std.specs.Ordering.{nat_cmp}
use Rattle.std.proofs.lemmas.Bool.{and_parts, cases_lt}
use Rattle.std.proofs.lemmas.Bool.Decides.{nat_tests}
use Rattle.std.proofs.lemmas.Cmp.{nat_list_cmp_total}
use Rattle.std.proofs.lemmas.List.{take-take, take_all}
use Rattle.std.proofs.lemmas.List.Kept.{IsStrictlySortedBy-filter}
use Rattle.std.proofs.lemmas.Map.Lookups.{exact_bytes}
use Rattle.std.proofs.lemmas.Map.Made.{is_some-lookup}
use Rattle.agg_types.specs.Check.{config_faults, each, fault_if, is_within, rank_faults}
use Rattle.agg_types.specs.declared.check.ConfigFault.{ConfigFault}
use Rattle.agg_types.specs.declared.check.ConfigFault.TheVariants.{BadSize}
use Rattle.agg_types.specs.declared.config.Config.{Config}
use Rattle.agg_types.specs.declared.config.Rank.{Rank}
use Rattle.agg_types.specs.declared.config.Shape.{Shape}
use Rattle.agg_types.specs.declared.limits.TheConstants.{LAST_MOMENT}
use Rattle.fleet_model.specs.Answers.{keys_of}
use Rattle.fleet_model.specs.Keys.{key_rows, worth_of}
use Rattle.fleet_model.specs.Laws.{IsKeyList, IsOrdered, is_key_among}
use Rattle.fleet_model.specs.Ranking.{in_order, rank_cmp, ranked, ranking, with_value}
use Rattle.fleet_model.specs.State.{State}
use Rattle.fleet_model.specs.Values.{cols_of}
use Rattle.fleet_model.proofs.KeyRows.{live-rows, value-rows}
use Rattle.fleet_model.proofs.Members.{among-filter, same_members}
use Rattle.fleet_model.proofs.Sets.{key_lists}
use Rattle.ranked.specs.Bounds.{AreAllBounded, IsBounded, IsByKey, first_ranked, zeros_at}
use Rattle.ranked.specs.Leaders.{bounds_of}
use Rattle.ranked.specs.Walk.{bound_of}
use Rattle.book_machine.specs.Foreseen.{living_of, living_within, within, worth_within}
use Rattle.book_machine.specs.Leading.{AreLed, Lists, rank_at}
use Rattle.book_machine.proofs.Foresight.{live_any}

-- ---- a ranked list has at most 1,000 keys
front_none : (xs ys : List ConfigFault) → xs ++ ys ≡ [] → xs ≡ []
front_none [] ys h = refl
front_none (x ∷ xs) ys h = cc

back_none : (xs ys : List ConfigFault) → xs ++ ys ≡ [] → ys ≡ []
back_none [] ys h = h
back_none (x ∷ xs) ys h = cc

fits_from : (fits : Bool) (fault : ConfigFault) → fault_if (not fits) fault ≡ [] → fits ≡ true
fits_from true fault none = refl
fits_from false fault none = cc

short_rank : (tables : List Shape) (before : List Rank) (rank : Rank)
    → rank_faults tables before rank ≡ [] → rank.n ≤ 1000
unfolding rank_faults
short_rank tables before rank none =
    let most = (and_parts (nat_le 1 rank.n) (nat_le rank.n 1000)
    (fits_from (is_within rank.n 1000) BadSize
    (back_none _ (fault_if (not (is_within rank.n 1000)) BadSize) none))).1 in
    grind (arith, nat_tests)

ranks_short : (tables : List Shape) (before ranks : List Rank) (list : ℕ) (other : Rank)
    → list < length ranks → each (rank_faults tables) before ranks ≡ []
    → (slice_index_or ranks list other).n ≤ 1000
ranks_short tables before [] list other within none = absurd (omega arith)
ranks_short tables before (rank ∷ ranks) zero other within none =
    short_rank tables before rank (front_none _ _ none)
ranks_short tables before (rank ∷ ranks) (suc list) other within none =
    ranks_short tables (before ++ rank ∷ []) ranks list other (omega arith) (back_none _ _ none)

pub lists_short : (config : Config) (list : ℕ) → list < length config.ranks
    → config_faults config ≡ [] → (rank_at config.ranks list).n ≤ 1000
lists_short config list within none = ranks_short config.tables [] config.ranks list _ within
    (back_none _ (each (rank_faults config.tables) [] config.ranks) none)

-- ---- the first ones of a list
-- so many of the first so many are as many as the fewer
pub take_fewer : {X : Type 0} (k m n : ℕ) (xs : List X) → k ≡ min m n
    → take k xs ≡ take m (take n xs)
take_fewer k m n xs is = ⊎_elim fewer whole (cases_lt m n)
  where
    fewer : m < n → take k xs ≡ take m (take n xs)
    fewer less =
        let same : k ≡ m = omega (arith, is, less) in
        ap (λ (i : ℕ). take i xs) same ∙ sym (take-take m n xs (omega (arith, less)))

    whole : n ≤ m → take k xs ≡ take m (take n xs)
    whole least =
        let same : k ≡ n = omega (arith, is, least) in
        ap (λ (i : ℕ). take i xs) same
        ∙ sym (take_all m (take n xs) (omega (arith, least, length-take n xs)))

-- so many are all, where a list has no more
pub all_ranked : (state : State) (rank : Rank) (most : ℕ) → rank.n ≤ most
    → take most (ranked state rank) ≡ ranked state rank
unfolding ranked
all_ranked state rank most short =
    take_all most (take rank.n (ranking state rank.table rank.col))
    (omega (arith, short, length-take rank.n (ranking state rank.table rank.col)))

-- ---- bounds at the machine's moment
in_time : (t : ℕ) → t ≤ LAST_MOMENT → within t ≡ t
in_time t short = omega arith

pub list_bounded : (state : State) (lists : Lists) (list t : ℕ) (rank : Rank)
    → AreLed state.config.tables state.config.ranks state.rows state.moment lists
    → list < length state.config.ranks → state.moment ≤ LAST_MOMENT → t ≡ state.moment
    → rank ≡ rank_at state.config.ranks list
    → AreAllBounded (bounds_of lists list)
    (λ key. living_within (key_rows state.rows rank.table key) t)
    (λ key. worth_within (cols_of state.config.tables rank.table)
    (key_rows state.rows rank.table key) rank.col t)
list_bounded state lists list t rank led inside short now is =
    let same : state.moment ≡ within t = sym (in_time state.moment short)
    ∙ ap (λ (n : ℕ). within n) (sym now) in
    subst (λ (r : Rank). AreAllBounded (bounds_of lists list)
    (λ key. living_within (key_rows state.rows r.table key) t)
    (λ key. worth_within (cols_of state.config.tables r.table) (key_rows state.rows r.table key)
    r.col t)) (sym is)
    (subst (λ (n : ℕ). AreAllBounded (bounds_of lists list)
    (λ key. living_of (key_rows state.rows (rank_at state.config.ranks list).table key) n)
    (λ key. worth_of (cols_of state.config.tables (rank_at state.config.ranks list).table)
    (key_rows state.rows (rank_at state.config.ranks list).table key)
    (rank_at state.config.ranks list).col n)) same
    (led.each list inside))

-- ---- what is found
-- a key that is bounded is among the keys of the bounds
bound_there : (bounds : List (List ℕ × ℕ)) (key : List ℕ) (least : ℕ) (found : Option ℕ)
    → zeros_at bounds key ≡ found → IsSomeAnd (option_map bound_of found) (λ kept. least ≤ kept)
    → is_key_among key (maps.keys_of bounds) ≡ true
bound_there bounds key least None is bounded = absurd bounded
bound_there bounds key least (Some own) is bounded =
    sym (is_some-lookup (is_at (slice_cmp nat_cmp key)) bounds) ∙ ap is_some is

known : (bounds : List (List ℕ × ℕ)) (key : List ℕ) (living least : ℕ) (live : Bool)
    → nat_lt 0 living ≡ live → (0 < living → IsBounded bounds key least)
    → (is_key_among key (maps.keys_of bounds) && nat_lt 0 living) ≡ nat_lt 0 living
known bounds key living least true is bounded =
    let some : 0 < living = grind (arith, nat_tests) in
    ap (λ (b : Bool). b && nat_lt 0 living) (bound_there bounds key least (zeros_at bounds key) refl
    (bounded some))
known bounds key living least false is bounded =
    ap (λ (b : Bool). is_key_among key (maps.keys_of bounds) && b) is
    ∙ none (is_key_among key (maps.keys_of bounds)) ∙ sym is
  where
    none : (b : Bool) → b && false ≡ false
    none true = refl
    none false = refl

live_found : (state : State) (rank : Rank) (bounds : List (List ℕ × ℕ)) (living value : List ℕ → ℕ)
    → IsOrdered state → IsByKey bounds
    → ((key : List ℕ) → living key ≡ living_of (key_rows state.rows rank.table key) state.moment)
    → AreAllBounded bounds living value
    → filter (λ key. nat_lt 0 (living key)) (maps.keys_of bounds) ≡ keys_of state rank.table
live_found state rank bounds living value ordered by_key lives bounded =
    let p : List ℕ → Bool = λ key. nat_lt 0 (living key) in
    let all : IsKeyList state rank.table (keys_of state rank.table) =
    key_lists state rank.table ordered in
    same_members (slice_cmp nat_cmp) nat_list_cmp_total exact_bytes (filter p (maps.keys_of bounds))
    (keys_of state rank.table)
    (IsStrictlySortedBy-filter (slice_cmp nat_cmp) p (maps.keys_of bounds) by_key) all.in_order
    (λ key. among-filter (slice_cmp nat_cmp) nat_list_cmp_total exact_bytes key p
    (maps.keys_of bounds)
    ∙ known bounds key (living key) (value key) (nat_lt 0 (living key)) refl (bounded key)
    ∙ ap (nat_lt 0) (lives key)
    ∙ live_any (key_rows state.rows rank.table key) state.moment
    ∙ sym (live-rows state.rows rank.table key state.moment)
    ∙ sym (all.exact key))

pub first_is : (state : State) (rank : Rank) (bounds : List (List ℕ × ℕ)) (t : ℕ) → IsOrdered state
    → IsByKey bounds → state.moment ≤ LAST_MOMENT → t ≡ state.moment
    → AreAllBounded bounds (λ key. living_within (key_rows state.rows rank.table key) t)
    (λ key. worth_within (cols_of state.config.tables rank.table)
    (key_rows state.rows rank.table key) rank.col t)
    → first_ranked rank.n (λ key. living_within (key_rows state.rows rank.table key) t)
    (λ key. worth_within (cols_of state.config.tables rank.table)
    (key_rows state.rows rank.table key) rank.col t) (maps.keys_of bounds)
    ≡ ranked state rank
unfolding ranked ranking
first_is state rank bounds t ordered by_key short now bounded =
    let living : List ℕ → ℕ = λ key. living_within (key_rows state.rows rank.table key) t in
    let value : List ℕ → ℕ = λ key. worth_within (cols_of state.config.tables rank.table)
    (key_rows state.rows rank.table key) rank.col t in
    let same : within t ≡ state.moment = ap (λ (n : ℕ). within n) now
    ∙ in_time state.moment short in
    let lives : (key : List ℕ) → living key ≡ living_of (key_rows state.rows rank.table key)
    state.moment = λ key. ap (λ (n : ℕ). living_of (key_rows state.rows rank.table key) n)
    same in
    let valued : (key : List ℕ) → (key, value key) ≡ with_value state rank.table rank.col key =
    λ key. ap (λ (n : ℕ). (key, n))
    (ap (λ (n : ℕ). worth_of (cols_of state.config.tables rank.table)
    (key_rows state.rows rank.table key) rank.col n) same
    ∙ sym (value-rows (cols_of state.config.tables rank.table) state.rows rank.table key
    rank.col state.moment)) in
    ap (λ (keys : List (List ℕ)). take rank.n
    (in_order rank_cmp (map (λ key. (key, value key)) keys)))
    (live_found state rank bounds living value ordered by_key lives bounded)
    ∙ ap (λ (f : List ℕ → List ℕ × ℕ). take rank.n
    (in_order rank_cmp (map f (keys_of state rank.table)))) (λ i key. valued key i)
