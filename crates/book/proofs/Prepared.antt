-- The verdicts that an event finds: those of a filter that it adds stand among them, until the
-- event is refused.
use Rattle.std.proofs.Common.{◌≡◌, ℕ, ◌+◌, ◌<◌, ◌≤◌, Bool, true, false, cond, nat_lt, List, []}
use Rattle.std.proofs.Common.{◌∷◌, ◌++◌, length, map, remove, refl, sym, ap, ◌∙◌, subst, arith}
use Rattle.std.proofs.lemmas.Bool.Decides.{nat_tests}
use Rattle.std.proofs.lemmas.List.{length-append, length-map, map-append}
use Rattle.std.proofs.Math.Seq.{drop-append_seam}
use Rattle.std.specs.List.{AllByRecursion, sum_by}
use Rattle.std.specs.Prelude.{drop}
use Rattle.agg_types.specs.declared.config.Config.{Config}
use Rattle.agg_types.specs.declared.config.Filter.{Filter}
use Rattle.agg_types.specs.declared.event.What.{What}
use Rattle.agg_types.specs.declared.event.What.TheVariants.{Sit, Open, Put, Clear, AddFilter}
use Rattle.agg_types.specs.declared.event.What.TheVariants.{DropFilter, Moment, Leave}
use Rattle.fleet_model.specs.Answers.{keys_of}
use Rattle.fleet_model.specs.Filters.{is_new}
use Rattle.fleet_model.specs.State.{State}
use Rattle.standing_filters.proofs.Removed.{all-remove, map-remove}
use Rattle.standing_filters.specs.Watched.{AllWatched, Watched}
use Rattle.book.specs.Reads.{pairs_from}
use Rattle.book_machine.specs.Uses.{has_filter}
use Rattle.book.specs.Verdicts.{AreAll, AreHeldFor, Follows, HasMore, HasRoomFor}
use Rattle.book.specs.Verdicts.{IsJudged, IsOneMore, with_filter}
use Rattle.book.proofs.Judging.{all_judged, still_judged}
use Rattle.book_rows.proofs.Lists.{all-append}

-- ---- a filter is to be added
filters_are : (state : State) (filtering : Filter) (b : Bool)
    → is_new state.config.filters filtering ≡ b → (with_filter state filtering).config.filters
    ≡ cond b (state.config.filters ++ filtering ∷ []) state.config.filters
filters_are state filtering b is =
    ap (λ c. cond c (state.config.filters ++ filtering ∷ []) state.config.filters) is

pub none_added : (state : State) (filtering : Filter) (ws : List Watched)
    → is_new state.config.filters filtering ≡ false → AreAll state ws
    → AreAll (with_filter state filtering) ws
none_added state filtering ws old held = record {
  filters = held.filters ∙ sym (filters_are state filtering false old);
  judged = all_judged (IsJudged state) (IsJudged (with_filter state filtering))
      (still_judged state (with_filter state filtering) refl refl refl) ws held.judged;
}

pub one_added : (state : State) (filtering : Filter) (old new : List Watched)
    → is_new state.config.filters filtering ≡ true → IsOneMore state filtering old new
    → AreAll state old → AreAll (with_filter state filtering) new
one_added state filtering old new fresh more held = record {
  filters = ap (map (λ (w : Watched). w.filter)) more.behind
      ∙ map-append (λ (w : Watched). w.filter) old (more.added ∷ [])
      ∙ (λ i. held.filters i ++ more.filter i ∷ [])
      ∙ sym (filters_are state filtering true fresh);
  judged = all_judged (IsJudged state) (IsJudged (with_filter state filtering))
      (still_judged state (with_filter state filtering) refl refl refl) new
      (subst (AllByRecursion (IsJudged state)) (sym more.behind)
      (all-append (IsJudged state) old (more.added ∷ []) held.judged (more.judged, tt)));
}

-- and is, once the event has happened
pub more_held : (filtering : Filter) (state later : State) (ws : List Watched)
    → HasMore filtering state later → AreAll (with_filter state filtering) ws → AreAll later ws
more_held filtering state later ws more held = record {
  filters = held.filters ∙ sym more.filters;
  judged = all_judged (IsJudged (with_filter state filtering)) (IsJudged later)
      (still_judged (with_filter state filtering) later more.tables more.rows more.moment) ws
      held.judged;
}

-- ---- what was read for it
pub pairs_added : (state : State) (filtering : Filter)
    → is_new state.config.filters filtering ≡ true
    → length (keys_of state filtering.table)
    ≤ pairs_from (with_filter state filtering) (length state.config.filters)
unfolding pairs_from keys_of
pairs_added state filtering fresh =
    let one : drop (length state.config.filters) (with_filter state filtering).config.filters
    ≡ filtering ∷ [] =
    ap (drop (length state.config.filters)) (filters_are state filtering true fresh)
    ∙ drop-append_seam state.config.filters (filtering ∷ []) in
    let same = ap (sum_by (λ (f : Filter). length (keys_of state f.table))) one in
    omega (arith, same)

pub pairs_later : (filtering : Filter) (state later : State) (first : ℕ)
    → HasMore filtering state later
    → pairs_from (with_filter state filtering) first ≡ pairs_from later first
unfolding pairs_from keys_of
pairs_later filtering state later first more = λ i.
    pairs_from (record state {
      config = record state.config { filters = sym more.filters i };
      rows = sym more.rows i;
      moment = sym more.moment i;
    }) first

-- ---- the event is refused
last_gone : {X : Type 0} (xs : List X) (x : X) → remove (xs ++ x ∷ []) (length xs) ≡ xs
last_gone [] x = refl
last_gone (y ∷ xs) x = ap (λ l. y ∷ l) (last_gone xs x)

count_all : (state : State) (ws : List Watched) → AreAll state ws
    → length ws ≡ length state.config.filters
count_all state ws held =
    sym (length-map ws (λ (w : Watched). w.filter)) ∙ ap length held.filters

-- no filter stands behind those of the state
as_many : (state : State) (ws : List Watched) → AreAll state ws
    → AreAll state (cond (nat_lt (length state.config.filters) (length ws))
    (remove ws (length state.config.filters)) ws)
as_many state ws held =
    let count = count_all state ws held in
    let none : nat_lt (length state.config.filters) (length ws) ≡ false =
    grind (arith, nat_tests) in
    subst (λ b. AreAll state (cond b (remove ws (length state.config.filters)) ws)) (sym none) held

one_fewer : (state : State) (filtering : Filter) (ws : List Watched)
    → AreAll (with_filter state filtering) ws
    → AreAll state (cond (nat_lt (length state.config.filters) (length ws))
    (remove ws (length state.config.filters)) ws)
one_fewer state filtering ws held = by (is_new state.config.filters filtering) refl
  where
    back : (vs : List Watched) → AllByRecursion (IsJudged (with_filter state filtering)) vs
        → AllByRecursion (IsJudged state) vs
    back vs judged = all_judged (IsJudged (with_filter state filtering)) (IsJudged state)
        (still_judged (with_filter state filtering) state refl refl refl) vs judged

    by : (b : Bool) → is_new state.config.filters filtering ≡ b
        → AreAll state (cond (nat_lt (length state.config.filters) (length ws))
        (remove ws (length state.config.filters)) ws)
    by false old = as_many state ws (record {
      filters = held.filters ∙ filters_are state filtering false old;
      judged = back ws held.judged;
    })
    by true fresh =
        let behind : map (λ (w : Watched). w.filter) ws ≡ state.config.filters ++ filtering ∷ [] =
        held.filters ∙ filters_are state filtering true fresh in
        let count : length ws ≡ length (state.config.filters ++ filtering ∷ []) =
        sym (length-map ws (λ (w : Watched). w.filter)) ∙ ap length behind in
        let more : length (state.config.filters ++ filtering ∷ [])
        ≡ length state.config.filters + 1 =
        length-append state.config.filters (filtering ∷ []) in
        let below : length state.config.filters < length ws = omega (arith, count, more) in
        let here : nat_lt (length state.config.filters) (length ws) ≡ true =
        grind (arith, nat_tests) in
        subst (λ b. AreAll state (cond b (remove ws (length state.config.filters)) ws)) (sym here)
        (record {
          filters = map-remove (λ (w : Watched). w.filter) ws (length state.config.filters)
              ∙ ap (λ fs. remove fs (length state.config.filters)) behind
              ∙ last_gone state.config.filters filtering;
          judged = back (remove ws (length state.config.filters))
              (all-remove (IsJudged (with_filter state filtering)) ws
              (length state.config.filters) held.judged);
        })

gone_back : (what : What) (state : State) (standing : AllWatched)
    → AreHeldFor what state standing
    → AreAll state (cond (nat_lt (length state.config.filters) (length standing.filters))
    (remove standing.filters (length state.config.filters)) standing.filters)
gone_back Sit state standing held = as_many state standing.filters held
gone_back (Open peer) state standing held = as_many state standing.filters held
gone_back (Put peer table key life cells) state standing held =
    as_many state standing.filters held
gone_back (Clear table sel) state standing held = as_many state standing.filters held
gone_back (AddFilter filtering) state standing held =
    one_fewer state filtering standing.filters held
gone_back (DropFilter name) state standing held = as_many state standing.filters held
gone_back (Moment told) state standing held = as_many state standing.filters held
gone_back Leave state standing held = as_many state standing.filters held

-- of which the place is known by another count
pub gone_back_by : (what : What) (state : State) (standing : AllWatched) (place : ℕ)
    (new : List Watched) → place ≡ length state.config.filters
    → new ≡ cond (nat_lt place (length standing.filters)) (remove standing.filters place)
    standing.filters
    → AreHeldFor what state standing → AreAll state new
gone_back_by what state standing place new is gone held =
    subst (AreAll state) (sym (gone ∙ ap (λ (n : ℕ). cond (nat_lt n (length standing.filters))
    (remove standing.filters n) standing.filters) is))
    (gone_back what state standing held)

-- ---- the room for a key
-- an event keeps the configuration for which there is room
pub room_kept : (what : What) (state later : State) (standing : AllWatched)
    → Follows what state later → HasRoomFor what state.config standing
    → HasRoomFor what later.config standing
room_kept Sit state later standing follows room = tt
room_kept (Open peer) state later standing follows room = tt
room_kept (Put peer table key life cells) state later standing follows room = λ some.
    room (ap (λ (c : Config). has_filter c table) (sym follows.config) ∙ some)
room_kept (Clear table sel) state later standing follows room = tt
room_kept (AddFilter filtering) state later standing follows room = tt
room_kept (DropFilter name) state later standing follows room = tt
room_kept (Moment told) state later standing follows room = tt
room_kept Leave state later standing follows room = tt
