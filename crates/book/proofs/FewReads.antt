-- How many values an event reads for kept verdicts.
use Rattle.std.proofs.Common.{◌≡◌, ◌≢◌, ℕ, ◌+◌, ◌*◌, ◌^◌, ◌<◌, ◌≤◌, Bool, true, false, cond}
use Rattle.std.proofs.Common.{◌==◌, List, [], ◌∷◌, Option, map, refl, sym, ap}
use Rattle.std.proofs.Common.{◌∙◌, subst, arith}
use Rattle.std.proofs.lemmas.List.Sums.{sum_by-cons}
use Rattle.std.specs.List.{AllByRecursion, AllZip, IsDistinct}
use Rattle.std.specs.Prelude.{count_by}
use Rattle.agg_types.specs.declared.config.Filter.{Filter}
use Rattle.agg_types.specs.declared.event.What.{What}
use Rattle.agg_types.specs.declared.event.What.TheVariants.{Sit, Open, Put, Clear, AddFilter}
use Rattle.agg_types.specs.declared.event.What.TheVariants.{DropFilter, Moment, Leave}
use Rattle.crossing.specs.First.{IsFirstAt, IsFirstFrom, IsFlatSoon}
use Rattle.fleet_model.proofs.Every.{every-map}
use Rattle.fleet_model.proofs.Small.{key_flat_soon}
use Rattle.fleet_model.specs.Changes.{NoKeyChangesBefore}
use Rattle.fleet_model.specs.Keys.{key_rows}
use Rattle.fleet_model.specs.Next.{flat_moment, longest_period}
use Rattle.fleet_model.specs.Sound.{IsSound}
use Rattle.fleet_model.specs.State.{State}
use Rattle.fleet_model.specs.Values.{cols_of}
use Rattle.standing_filters.proofs.Walking.{due_moment}
use Rattle.standing_filters.specs.Turns.{AreDue, AreReadFor, IsQuiet, is_due}
use Rattle.standing_filters.specs.Verdicts.{holds_at}
use Rattle.standing_filters.specs.Watched.{Watched, filters_of, verdict_at}
use Rattle.book_machine.specs.Foreseen.{flat_within}
use Rattle.book.specs.Verdicts.{AreAll, AreJudged, IsJudged}
use Rattle.book.specs.Verdicts.{living_in, sums_in}
use Rattle.book.specs.Reads.{AreDueBy, IsDueBy, IsFewFor, IsForDue, IsQuietUntil, filters_at}
use Rattle.book.proofs.Judging.{holds_in}

-- the values of a sound state stay soon
pub flat_soon : (state : State) (table : ℕ) (key : List ℕ) → IsSound state
    → IsFlatSoon state.moment (flat_within (cols_of state.config.tables table)
    (key_rows state.rows table key))
flat_soon state table key sound =
    let soon : flat_moment (longest_period (cols_of state.config.tables table))
    (key_rows state.rows table key) < state.moment + 2 ^ 32 =
    key_flat_soon state table key sound in
    omega (arith, soon)

-- ---- the filters of a table
same_count : (table : ℕ) (ws : List Watched)
    → filters_of table ws
    ≡ count_by (λ (f : Filter). f.table == table) (map (λ (w : Watched). w.filter) ws)
same_count table [] = refl
same_count table (w ∷ ws) =
    sum_by-cons (λ (v : Watched). cond (v.filter.table == table) 1 0) w ws
    ∙ ap (λ n. cond (w.filter.table == table) 1 0 + n) (same_count table ws)
    ∙ sym (sum_by-cons (λ (f : Filter). cond (f.table == table) 1 0) w.filter
    (map (λ (v : Watched). v.filter) ws))

pub filters_count : (state : State) (table : ℕ) (ws : List Watched) → AreAll state ws
    → filters_of table ws ≡ filters_at state table
filters_count state table ws held =
    same_count table ws ∙ ap (count_by (λ (f : Filter). f.table == table)) held.filters

-- ---- what comes due
-- a verdict that changes up to t is of a key of which that is so
due_by : (state : State) (w : Watched) (t : ℕ) (key : List ℕ) → IsSound state → IsJudged state w
    → is_due t (verdict_at w.kept key) ≡ true → IsDueBy state t w.filter key
due_by state w t key sound judged due =
    let moment = due_moment t (verdict_at w.kept key).next due in
    let u : ℕ = moment.0 in
    let first : IsFirstAt (state.moment + 1) (λ (s : ℕ).
    holds_at (sums_in state) (living_in state) w.filter key s
    ≢ holds_at (sums_in state) (living_in state) w.filter key state.moment) u =
    subst (λ (o : Option ℕ). IsFirstFrom (state.moment + 1) (λ (s : ℕ).
    holds_at (sums_in state) (living_in state) w.filter key s
    ≢ holds_at (sums_in state) (living_in state) w.filter key state.moment) o)
    moment.1 (judged key).next in
    let since : state.moment + 1 ≤ u = first.since in (
      u,
      omega (arith, since),
      moment.2,
      λ same. first.holds (holds_in state w.filter key u sound ∙ same
          ∙ sym (holds_in state w.filter key state.moment sound)),
    )

all_due : (state : State) (t : ℕ) → IsSound state → (ws : List Watched)
    (keys : List (List (List ℕ))) → AllZip (λ w ks. AreDue t w ks) ws keys → AreJudged state ws
    → AllZip (λ f ks. AreDueBy state t f ks) (map (λ (w : Watched). w.filter) ws) keys
all_due state t sound [] [] due judged = tt
all_due state t sound [] (ks ∷ keys) due judged = absurd due
all_due state t sound (w ∷ ws) [] due judged = absurd due
all_due state t sound (w ∷ ws) (ks ∷ keys) due judged = (
  record {
    due = every-map (λ key. is_due t (verdict_at w.kept key) ≡ true) (IsDueBy state t w.filter)
        (λ key come. due_by state w t key sound judged.0 come) ks due.0.due;
    apart = due.0.apart;
  },
  all_due state t sound ws keys due.1 judged.1,
)

pub read_for_due : (state : State) (t read : ℕ) (ws : List Watched) → IsSound state
    → AreAll state ws → AreReadFor t ws 0 read → IsForDue state t read
read_for_due state t read ws sound held reads = record {
  keys = reads.keys;
  due = subst (λ (fs : List Filter). AllZip (λ f ks. AreDueBy state t f ks) fs reads.keys)
      held.filters (all_due state t sound ws reads.keys reads.due held.judged);
  few = omega (arith, reads.few);
}

none_quiet : (state : State) (t : ℕ) → IsSound state → (ws : List Watched)
    → AllByRecursion (λ f. NoKeyChangesBefore state f (t + 1))
    (map (λ (w : Watched). w.filter) ws)
    → AreJudged state ws → AllByRecursion (IsQuiet t) ws
none_quiet state t sound [] still judged = tt
none_quiet state t sound (w ∷ ws) still judged =
    (one, none_quiet state t sound ws still.1 judged.1)
  where
    one : (key : List ℕ) → is_due t (verdict_at w.kept key) ≡ false
    one key = by (is_due t (verdict_at w.kept key)) refl
      where
        by : (b : Bool) → is_due t (verdict_at w.kept key) ≡ b
            → is_due t (verdict_at w.kept key) ≡ false
        by false e = e
        by true e =
            let due = due_by state w t key sound judged.0 e in
            absurd (due.3 (still.0 key due.0 due.1 (omega (arith, due.2))))

pub quiet_verdicts : (state : State) (t : ℕ) (ws : List Watched) → IsSound state
    → AreAll state ws → IsQuietUntil state t → AllByRecursion (IsQuiet t) ws
quiet_verdicts state t ws sound held still =
    none_quiet state t sound ws
    (subst (AllByRecursion (λ f. NoKeyChangesBefore state f (t + 1)))
    (sym held.filters) still) held.judged

-- ---- what calls of kept verdicts read
pub touched_few : (state : State) (soon : Type 0) (table : ℕ) (kept : List Watched)
    (before read : ℕ) → AreAll state kept → soon
    → (soon → read ≤ before + 505 * filters_of table kept)
    → read ≤ before + 505 * filters_at state table
touched_few state soon table kept before read held so counted =
    subst (λ (n : ℕ). read ≤ before + 505 * n) (filters_count state table kept held) (counted so)

pub turned_few : (state later : State) (now : ℕ) (kept : List Watched) (before read : ℕ)
    → IsSound state → IsSound later → AreAll state kept → now ≡ later.moment → before ≡ 0
    → (((table : ℕ) (key : List ℕ) → IsFlatSoon now
    (flat_within (cols_of later.config.tables table) (key_rows later.rows table key)))
    → AreReadFor now kept before read)
    → IsForDue state later.moment read
turned_few state later now kept before read sound later_sound held moment zero counted =
    let reads : AreReadFor now kept before read =
    counted (λ table key. subst (λ (t : ℕ). IsFlatSoon t
    (flat_within (cols_of later.config.tables table) (key_rows later.rows table key)))
    (sym moment) (flat_soon later table key later_sound)) in
    read_for_due state later.moment read kept sound held
    (subst (λ (n : ℕ). AreReadFor later.moment kept n read) zero
    (subst (λ (t : ℕ). AreReadFor t kept before read) moment reads))

pub turned_quiet : (state : State) (t now : ℕ) (kept : List Watched) (before read : ℕ)
    → IsSound state → AreAll state kept → IsQuietUntil state t → now ≡ t → before ≡ 0
    → (AllByRecursion (IsQuiet now) kept → read ≡ before) → read ≡ 0
turned_quiet state t now kept before read sound held still moment zero quiet =
    quiet (subst (λ (s : ℕ). AllByRecursion (IsQuiet s) kept) (sym moment)
    (quiet_verdicts state t kept sound held still)) ∙ zero

-- ---- nothing is read
no_keys : Filter → List (List ℕ)
no_keys filtering = []

none_for : (state : State) (t : ℕ) (fs : List Filter)
    → AllZip (λ f ks. AreDueBy state t f ks) fs (map no_keys fs)
unfolding no_keys IsDistinct
none_for state t [] = tt
none_for state t (f ∷ fs) = (record { due = tt; apart = tt }, none_for state t fs)

none_due : (state : State) (t read : ℕ) → read ≡ 0 → IsForDue state t read
none_due state t read none = record {
  keys = map no_keys state.config.filters;
  due = none_for state t state.config.filters;
  few = omega (arith, none);
}

pub few_none : (state later : State) (what : What) → IsFewFor state later what 0
few_none state later Sit = refl
few_none state later (Open peer) = refl
few_none state later (Put peer table key life cells) = omega arith
few_none state later (Clear table sel) = refl
few_none state later (AddFilter filtering) = omega arith
few_none state later (DropFilter name) = refl
few_none state later (Moment told) = none_due state later.moment 0 refl
few_none state later Leave = refl
