-- Kept verdicts: they stay right as events are followed, and say what the filters' sets are.
use Rattle.std.proofs.Common.{◌≡◌, ℕ, ◌+◌, ◌≤◌, ◌<◌, false, nat_lt, List}
use Rattle.std.proofs.Common.{[], ◌∷◌, length, get_or, map, Option, None, Some}
use Rattle.std.proofs.Common.{refl, sym, ap, ◌∙◌, subst, arith}
use Rattle.std.proofs.lemmas.List.{get_or-map, get_or_past, length-map}
use Rattle.std.proofs.lemmas.Bool.Decides.{nat_tests}
use Rattle.std.proofs.lemmas.List.Elements.{All-from_recursion}
use Rattle.std.proofs.lemmas.Bool.{false≢true}
use Rattle.std.proofs.Common.{Bool, true, cond, ◌&&◌, ◌||◌, ◌==◌, eq-eqb}
use Rattle.std.specs.List.{AllByRecursion, list_all, list_any}
use Rattle.agg_types.specs.Op.{op_holds}
use Rattle.agg_types.specs.declared.column.Col.{Col}
use Rattle.agg_types.specs.declared.config.Cond.{Cond}
use Rattle.standing_filters.specs.Verdicts.{Foretells}
use Rattle.standing_filters.specs.declared.judging.Verdict.{Verdict}
use Rattle.agg_types.specs.declared.config.Config.{Config}
use Rattle.agg_types.specs.declared.config.Filter.{Filter}
use Rattle.agg_types.specs.declared.config.Shape.{Shape}
use Rattle.fleet_model.specs.Answers.{filter_of, no_filter, set_at}
use Rattle.fleet_model.specs.Keys.{AreKeysOf, Rows, holds, key_rows}
use Rattle.fleet_model.specs.Next.{IsNextChange}
use Rattle.fleet_model.specs.Sound.{IsSound}
use Rattle.fleet_model.specs.State.{State}
use Rattle.fleet_model.specs.Values.{cols_of}
use Rattle.fleet_model.proofs.KeyChanges.{first-change, no-change}
use Rattle.fleet_model.proofs.KeyRows.{clear-each, held-keys, only-keys}
use Rattle.fleet_model.proofs.Members.{any-map}
use Rattle.fleet_model.proofs.Small.{flat_if_sound}
use Rattle.standing_filters.specs.Flips.{holding}
use Rattle.standing_filters.specs.Laws.{AreVerdicts, FirstChangeIsTheSets}
use Rattle.standing_filters.specs.Laws.{ForgettingKeepsVerdicts, IsChanged, MomentKeepsVerdicts}
use Rattle.standing_filters.specs.Laws.{TouchKeepsVerdicts}
use Rattle.standing_filters.specs.Turns.{AreTurned}
use Rattle.standing_filters.specs.Verdicts.{holds_at, out}
use Rattle.standing_filters.specs.Watched.{AllWatched, AreForgotten, AreTouched, IsFirstChange}
use Rattle.standing_filters.specs.Watched.{Watched}
use Rattle.standing_filters.specs.Watched.{verdicts_of, unheld, verdict_at}
use Rattle.standing_filters.specs.Watched.{no_filter as nothing}
use Rattle.crossing.specs.First.{IsFirstFrom}
use Rattle.book.specs.Flips.{held_in}
use Rattle.book_machine.specs.Foreseen.{living_within, worth_within}
use Rattle.book_machine.specs.Gone.{without_keys}
use Rattle.book.specs.Verdicts.{AreAll, AreJudged, ChangesKey, ChangesTable}
use Rattle.book.specs.Verdicts.{GoesOn, IsJudged, Stays, living_in, sums_in}
use Rattle.book_machine.proofs.Foresight.{bool_same, holds_within}

-- what is read of a key is what a filter says of it
pub holds_in : (state : State) (filtering : Filter) (key : List ℕ) (t : ℕ) → IsSound state
    → holds_at (sums_in state) (living_in state) filtering key t ≡ holds state filtering key t
holds_in state filtering key t sound =
    holds_within state filtering key (cols_of state.config.tables filtering.table) refl
    (flat_if_sound state filtering.table sound) t

-- ---- nothing that they rest on has changed
judged_by : List Shape → Rows → ℕ → Watched → Type 0
judged_by tables rows moment w = AreVerdicts
    (λ table key col t. worth_within (cols_of tables table) (key_rows rows table key) col t)
    (λ table key t. living_within (key_rows rows table key) t) moment w

pub still_judged : (state later : State) → later.config.tables ≡ state.config.tables
    → later.rows ≡ state.rows → later.moment ≡ state.moment → (w : Watched) → IsJudged state w
    → IsJudged later w
unfolding judged_by
still_judged state later tables rows moment w judged =
    subst (λ (shapes : List Shape). judged_by shapes later.rows later.moment w) (sym tables)
    (subst (λ (rs : Rows). judged_by state.config.tables rs later.moment w) (sym rows)
    (subst (λ (t : ℕ). judged_by state.config.tables state.rows t w) (sym moment) judged))

pub all_judged : (P Q : Watched → Type 0) → ((w : Watched) → P w → Q w) → (ws : List Watched)
    → AllByRecursion P ws → AllByRecursion Q ws
all_judged P Q h [] all = tt
all_judged P Q h (w ∷ ws) all = (h w all.0, all_judged P Q h ws all.1)

pub stays_held : (state later : State) (ws : List Watched) → Stays state later → AreAll state ws
    → AreAll later ws
stays_held state later ws stays held = record {
  filters = held.filters ∙ ap (λ (c : Config). c.filters) (sym stays.config);
  judged = all_judged (IsJudged state) (IsJudged later)
      (still_judged state later (ap (λ (c : Config). c.tables) stays.config) stays.rows
      stays.moment) ws held.judged;
}

-- ---- the rows of another table have
told_by : List (Col × ℕ) → Rows → List Cond → ℕ → Verdict → Type 0
told_by cols rows conds now verdict = Foretells (λ t. nat_lt 0 (living_within rows t)
    && list_all (λ cond. op_holds cond.op (worth_within cols rows cond.col t) cond.bound) conds)
    now verdict

elsewhere_judged : (state later : State) (table : ℕ) → ChangesTable table state later
    → (w : Watched) → (w.filter.table == table) ≡ false → IsJudged state w → IsJudged later w
unfolding told_by
elsewhere_judged state later table changes w apart judged = λ key.
    let filtering : Filter = w.filter in
    let verdict : Verdict = verdict_at w.kept key in
    subst (λ (c : Config). told_by (cols_of c.tables filtering.table)
    (key_rows later.rows filtering.table key) filtering.conds later.moment verdict)
    (sym changes.config)
    (subst (λ (rows : Rows). told_by (cols_of state.config.tables filtering.table) rows
    filtering.conds later.moment verdict)
    (sym (changes.others filtering.table key
    (λ same. false≢true (sym apart ∙ eq-eqb filtering.table table same))))
    (subst (λ (now : ℕ). told_by (cols_of state.config.tables filtering.table)
    (key_rows state.rows filtering.table key) filtering.conds now verdict)
    (sym changes.moment) (judged key)))

all_elsewhere : (state later : State) (table : ℕ) → ChangesTable table state later
    → (ws : List Watched) → list_any (λ (w : Watched). w.filter.table == table) ws ≡ false
    → AreJudged state ws → AreJudged later ws
all_elsewhere state later table changes [] none judged = tt
all_elsewhere state later table changes (w ∷ ws) none judged =
    by (w.filter.table == table) refl none
    (λ more. all_elsewhere state later table changes ws more judged.1)
  where
    by : (b : Bool) → (w.filter.table == table) ≡ b
        → (b || list_any (λ (w : Watched). w.filter.table == table) ws) ≡ false
        → (list_any (λ (w : Watched). w.filter.table == table) ws ≡ false → AreJudged later ws)
        → AreJudged later (w ∷ ws)
    by true here none rest = cc
    by false apart none rest = (
      elsewhere_judged state later table changes w apart judged.0,
      rest none,
    )

pub elsewhere_held : (state later : State) (table : ℕ) (ws : List Watched)
    → ChangesTable table state later
    → list_any (λ (f : Filter). f.table == table) later.config.filters ≡ false
    → AreAll state ws → AreAll later ws
elsewhere_held state later table ws changes none held =
    let filters : map (λ (w : Watched). w.filter) ws ≡ later.config.filters =
    held.filters ∙ ap (λ (c : Config). c.filters) (sym changes.config) in
    record {
      filters = filters;
      judged = all_elsewhere state later table changes ws
          (sym (any-map (λ (f : Filter). f.table == table) (λ (w : Watched). w.filter) ws)
          ∙ ap (list_any (λ (f : Filter). f.table == table)) filters ∙ none) held.judged;
    }

-- ---- the rows of one key have
pub touched_held : TouchKeepsVerdicts → (state later : State) (table : ℕ) (key : List ℕ)
    (old new : List Watched) → ChangesKey table key state later
    → AreTouched (sums_in later) (living_in later) table key later.moment old new
    → AreAll state old → AreAll later new
touched_held law state later table key old new changes touched held = record {
  filters = same_filters old new touched ∙ held.filters
      ∙ ap (λ (c : Config). c.filters) (sym changes.config);
  judged = each old new touched held.judged;
}
  where
    same_filters : (old new : List Watched)
        → AreTouched (sums_in later) (living_in later) table key later.moment old new
        → map (λ (w : Watched). w.filter) new ≡ map (λ (w : Watched). w.filter) old
    same_filters [] [] touched = refl
    same_filters [] (b ∷ new) touched = absurd touched
    same_filters (a ∷ old) [] touched = absurd touched
    same_filters (a ∷ old) (b ∷ new) touched =
        λ i. touched.0.filter i ∷ same_filters old new touched.1 i

    each : (old new : List Watched)
        → AreTouched (sums_in later) (living_in later) table key later.moment old new
        → AreJudged state old → AreJudged later new
    each [] [] touched judged = tt
    each [] (b ∷ new) touched judged = absurd touched
    each (a ∷ old) [] touched judged = absurd touched
    each (a ∷ old) (b ∷ new) touched judged = (
      law (sums_in state) (sums_in later) (living_in state) (living_in later) table key later.moment
          a b
          (λ t other apart. (
            (λ i. λ col u. worth_within (cols_of (changes.config i).tables t)
                (changes.others t other apart i) col u),
            (λ i. λ u. living_within (changes.others t other apart i) u),
          ))
          (subst (λ (t : ℕ). AreVerdicts (sums_in state) (living_in state) t a)
          (sym changes.moment) judged.0)
          touched.0,
      each old new touched.1 judged.1,
    )

-- ---- keys of a table are gone
own_left : (table : ℕ) (is_gone : List ℕ → Bool) (rows later : Rows)
    → later ≡ without_keys table is_gone rows → (t : ℕ) (key : List ℕ)
    → key_rows later t key ≡ cond ((t == table) && is_gone key) [] (key_rows rows t key)
own_left table is_gone rows later gone t key =
    ap (λ (rs : Rows). key_rows rs t key) gone ∙ clear-each is_gone rows table t key

pub forgotten_held : ForgettingKeepsVerdicts → (state later : State) (table : ℕ)
    (is_gone : List ℕ → Bool) (old new : List Watched) → ChangesTable table state later
    → later.rows ≡ without_keys table is_gone state.rows → AreForgotten table is_gone old new
    → AreAll state old → AreAll later new
forgotten_held law state later table is_gone old new changes gone forgotten held = record {
  filters = same_filters old new forgotten ∙ held.filters
      ∙ ap (λ (c : Config). c.filters) (sym changes.config);
  judged = each old new forgotten held.judged;
}
  where
    same_filters : (old new : List Watched) → AreForgotten table is_gone old new
        → map (λ (w : Watched). w.filter) new ≡ map (λ (w : Watched). w.filter) old
    same_filters [] [] forgotten = refl
    same_filters [] (b ∷ new) forgotten = absurd forgotten
    same_filters (a ∷ old) [] forgotten = absurd forgotten
    same_filters (a ∷ old) (b ∷ new) forgotten =
        λ i. forgotten.0.filter i ∷ same_filters old new forgotten.1 i

    stays : (t : ℕ) (key : List ℕ) → ((t == table) && is_gone key) ≡ false
        → key_rows later.rows t key ≡ key_rows state.rows t key
    stays t key apart = own_left table is_gone state.rows later.rows gone t key
        ∙ ap (λ b. cond b [] (key_rows state.rows t key)) apart

    none : (key : List ℕ) (t : ℕ) → is_gone key ≡ true → living_in later table key t ≡ 0
    none key t its =
        let own : Rows = key_rows state.rows table key in
        let none : key_rows later.rows table key ≡ [] =
        own_left table is_gone state.rows later.rows gone table key
        ∙ ap (λ b. cond (b && is_gone key) [] own) (eq-eqb table table refl)
        ∙ ap (λ b. cond b [] own) its in
        ap (λ (rows : Rows). living_within rows t) none

    each : (old new : List Watched) → AreForgotten table is_gone old new
        → AreJudged state old → AreJudged later new
    each [] [] forgotten judged = tt
    each [] (b ∷ new) forgotten judged = absurd forgotten
    each (a ∷ old) [] forgotten judged = absurd forgotten
    each (a ∷ old) (b ∷ new) forgotten judged = (
      law (sums_in state) (sums_in later) (living_in state) (living_in later) table is_gone
          later.moment a b
          (λ t key apart. (
            (λ i. λ col u. worth_within (cols_of (changes.config i).tables t)
                (stays t key apart i) col u),
            (λ i. λ u. living_within (stays t key apart i) u),
          ))
          none
          (subst (λ (t : ℕ). AreVerdicts (sums_in state) (living_in state) t a)
          (sym changes.moment) judged.0)
          forgotten.0,
      each old new forgotten.1 judged.1,
    )

-- where no key is gone
pub none_forgotten : (table : ℕ) (ws : List Watched) → AreForgotten table (λ key. false) ws ws
none_forgotten table [] = tt
none_forgotten table (w ∷ ws) = (
  record { filter = refl; kept = λ key. kept (w.filter.table == table) (verdict_at w.kept key) },
  none_forgotten table ws,
)
  where
    kept : (b : Bool) (v : Verdict) → v ≡ cond (b && false) out v
    kept true v = refl
    kept false v = refl

-- ---- the clock has gone on
pub turned_held : MomentKeepsVerdicts → (told : ℕ) (state later : State) (old new : List Watched)
    → IsSound state → IsSound later → GoesOn told state later
    → AreTurned (sums_in later) (living_in later) later.moment old new → AreAll state old
    → AreAll later new
turned_held law told state later old new sound still goes turned held = record {
  filters = same_filters old new turned ∙ held.filters
      ∙ ap (λ (c : Config). c.filters) (sym goes.config);
  judged = each old new turned held.judged;
}
  where
    same_filters : (old new : List Watched)
        → AreTurned (sums_in later) (living_in later) later.moment old new
        → map (λ (w : Watched). w.filter) new ≡ map (λ (w : Watched). w.filter) old
    same_filters [] [] turned = refl
    same_filters [] (b ∷ new) turned = absurd turned
    same_filters (a ∷ old) [] turned = absurd turned
    same_filters (a ∷ old) (b ∷ new) turned =
        λ i. turned.0.filter i ∷ same_filters old new turned.1 i

    each : (old new : List Watched)
        → AreTurned (sums_in later) (living_in later) later.moment old new
        → AreJudged state old → AreJudged later new
    each [] [] turned judged = tt
    each [] (b ∷ new) turned judged = absurd turned
    each (a ∷ old) [] turned judged = absurd turned
    each (a ∷ old) (b ∷ new) turned judged = (
      law (sums_in state) (sums_in later) (living_in state) (living_in later) state.moment
          later.moment a b (let moment = goes.moment in omega arith)
          (λ key s since. holds_in later a.filter key s still ∙ goes.holds a.filter key s since
          ∙ sym (holds_in state a.filter key s sound))
          judged.0 turned.0,
      each old new turned.1 judged.1,
    )

-- ---- what the verdicts of one filter say
pub count_held : (state : State) (watched : AllWatched) (position : ℕ)
    → AreAll state watched.filters → position < length state.config.filters
    → position < length watched.filters
count_held state watched position held inside =
    let count : length watched.filters ≡ length state.config.filters =
    sym (length-map watched.filters (λ (w : Watched). w.filter)) ∙ ap length held.filters in
    omega arith

watch_at : AllWatched → ℕ → Watched
watch_at watched position = get_or watched.filters position (unheld nothing)

filter_at : (state : State) (watched : AllWatched) (position : ℕ) → AreAll state watched.filters
    → position < length state.config.filters
    → (watch_at watched position).filter ≡ filter_of state position
unfolding watch_at
filter_at state watched position held inside =
    sym (get_or-map (λ (w : Watched). w.filter) watched.filters position (unheld nothing) no_filter
    (count_held state watched position held inside))
    ∙ ap (λ (fs : List Filter). get_or fs position no_filter) held.filters

judged_at : (state : State) (watched : AllWatched) (position : ℕ) → AreAll state watched.filters
    → position < length state.config.filters → IsJudged state (watch_at watched position)
unfolding watch_at
judged_at state watched position held inside =
    All-from_recursion (IsJudged state) watched.filters held.judged position (unheld nothing)
    (count_held state watched position held inside)

pub kept_set : (state : State) (watched : AllWatched) (position : ℕ) (keys : List (List ℕ))
    → IsSound state → AreAll state watched.filters → position < length state.config.filters
    → AreKeysOf (λ key. (verdict_at (verdicts_of watched position) key).holds) keys
    → keys ≡ set_at state (filter_of state position) state.moment
unfolding watch_at
kept_set state watched position keys sound held inside are =
    let filtering : Filter = filter_of state position in
    only-keys (λ key. holds state filtering key state.moment) keys
    (set_at state filtering state.moment)
    (record {
      in_order = are.in_order;
      exact = λ key. are.exact key ∙ (judged_at state watched position held inside key).holds
          ∙ holds_in state (watch_at watched position).filter key state.moment sound
          ∙ ap (λ (f : Filter). holds state f key state.moment)
          (filter_at state watched position held inside);
    })
    (held-keys state filtering state.moment sound.ordered)

-- what verdicts hold, the state's filters hold
pub kept_holds : (state : State) (ws : List Watched) → IsSound state → AreAll state ws
    → (filter : ℕ) (key : List ℕ) → held_in state filter key ≡ holding ws filter key
unfolding watch_at
kept_holds state ws sound held filter key = by (nat_lt filter (length state.config.filters)) refl
  where
    watched : AllWatched
    watched = record { filters = ws; ready = None; copied = None }

    by : (b : Bool) → nat_lt filter (length state.config.filters) ≡ b
        → b && holds state (filter_of state filter) key state.moment ≡ holding ws filter key
    by true is =
        let inside : filter < length state.config.filters = grind (arith, nat_tests) in
        sym ((judged_at state watched filter held inside key).holds
        ∙ holds_in state (watch_at watched filter).filter key state.moment sound
        ∙ ap (λ (f : Filter). holds state f key state.moment)
        (filter_at state watched filter held inside))
    by false is =
        let count : length ws ≡ length state.config.filters =
        sym (length-map ws (λ (w : Watched). w.filter)) ∙ ap length held.filters in
        let past : length state.config.filters ≤ filter = grind (arith, nat_tests) in
        sym (ap (λ (w : Watched). (verdict_at w.kept key).holds)
        (get_or_past ws filter (unheld nothing) (omega arith)))

-- the first change of the verdicts is the filter's
quiet : (state : State) (filtering : Filter) (u : ℕ) → IsSound state
    → (IsChanged (sums_in state) (living_in state) filtering state.moment u → ⊥) → (key : List ℕ)
    → holds state filtering key u ≡ holds state filtering key state.moment
quiet state filtering u sound never key =
    sym (holds_in state filtering key u sound)
    ∙ bool_same _ _ (λ differs. never (key, differs))
    ∙ holds_in state filtering key state.moment sound

next_from : (state : State) (filtering : Filter) (next : Option ℕ) → IsSound state
    → IsFirstFrom (state.moment + 1)
    (IsChanged (sums_in state) (living_in state) filtering state.moment) next
    → IsNextChange state filtering next
next_from state filtering None sound first =
    no-change state filtering sound.ordered
    (λ key t later. quiet state filtering t sound (first t (omega arith)) key)
next_from state filtering (Some t) sound first =
    let key : List ℕ = first.holds.0 in
    let since : state.moment + 1 ≤ t = first.since in
    first-change state filtering key t sound.ordered
    (record {
      later = omega arith;
      differs = λ same. first.holds.1 (holds_in state filtering key t sound ∙ same
          ∙ sym (holds_in state filtering key state.moment sound));
      same_before = λ u later before. quiet state filtering u sound
          (first.not_before u (omega arith) before) key;
    })
    (λ other u later before. quiet state filtering u sound
    (first.not_before u (omega arith) before) other)

pub kept_next : FirstChangeIsTheSets → (state : State) (watched : AllWatched) (position : ℕ)
    (next : Option ℕ) → IsSound state → AreAll state watched.filters
    → position < length state.config.filters → IsFirstChange (verdicts_of watched position) next
    → IsNextChange state (filter_of state position) next
unfolding watch_at
kept_next law state watched position next sound held inside first =
    subst (λ (f : Filter). IsNextChange state f next)
    (filter_at state watched position held inside)
    (next_from state (watch_at watched position).filter next sound
    (law (sums_in state) (living_in state) state.moment (watch_at watched position) next
    (judged_at state watched position held inside) first))
