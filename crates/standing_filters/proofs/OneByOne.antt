-- The clock goes on under one filter: keys whose changes have come are judged, one by one.
use Rattle.std.proofs.Common.{◌≡◌, ◌≢◌, ℕ, ◌+◌, ◌*◌, ◌<◌, ◌≤◌, ◌||◌, Bool}
use Rattle.std.proofs.Common.{true, false, cond, List, []}
use Rattle.std.proofs.Common.{◌∷◌, Option, None, Some, length, refl, sym, ap, ◌∙◌, subst, arith}
use Rattle.std.proofs.Common.{⊎_elim, inl, inr}
use Rattle.std.specs.Prelude.{slice_set, sum_by}
use Rattle.std.proofs.lemmas.Bool.{cases_eq, cases_lt, false≢true, lt-leb, or_cases}
use Rattle.std.proofs.lemmas.List.{get_or_past, length-set}
use Rattle.std.proofs.lemmas.List.Sums.{sum_by-set}
use Rattle.std.specs.List.{AllByRecursion, IsDistinct}
use Rattle.agg_types.specs.declared.column.Col.{Col}
use Rattle.agg_types.specs.declared.config.Filter.{Filter}
use Rattle.crossing.specs.First.{IsFirstFrom}
use Rattle.place_index.specs.Places.{in_order, item_at, key_at}
use Rattle.standing_filters.specs.Placed.{IsSetAt, VerdictPlaces, change_in, verdict_in}
use Rattle.standing_filters.specs.Plans.{IsWatchBut, Watching, view_of_watch}
use Rattle.standing_filters.specs.Turns.{AreDue, IsQuiet, IsTurned, has_come, is_due}
use Rattle.standing_filters.specs.Turns.{same_key}
use Rattle.standing_filters.specs.Verdicts.{IsVerdict, holds_at}
use Rattle.standing_filters.specs.Watched.{IsTouched, Watched, is_among, verdict_at}
use Rattle.standing_filters.specs.declared.judging.Verdict.{Verdict}
use Rattle.standing_filters.proofs.Placing.{others_set}
use Rattle.standing_filters.proofs.Planning.{key_in, quiet_places, verdict_here, verdict_of}
use Rattle.standing_filters.proofs.Walking.{due_moment, key_itself, one_key}

-- a verdict of t changes later
pub judged_later : (summed : ℕ → List ℕ → Col → ℕ → ℕ) (living : ℕ → List ℕ → ℕ → ℕ)
    (filter : Filter) (t : ℕ) (key : List ℕ) (v : Verdict)
    → IsVerdict summed living filter t key v → is_due t v ≡ false
judged_later summed living filter t key v is = by v.next is.next
  where
    by : (o : Option ℕ) → IsFirstFrom (t + 1)
        (λ s. holds_at summed living filter key s ≢ holds_at summed living filter key t) o
        → has_come t o ≡ false
    by None first = refl
    by (Some u) first =
        let since : t + 1 ≤ u = first.since in
        lt-leb u t (omega arith)

-- ---- how many verdicts in places are due

-- a place's part in their number
abbrev part : ℕ → Option (List ℕ × Verdict) → ℕ
part t item = cond (is_due t (verdict_of item)) 1 0

abbrev pub due_count : ℕ → VerdictPlaces → ℕ
due_count t places = sum_by (part t) places

pub due_fewer : (t at : ℕ) (old new : VerdictPlaces) → IsSetAt at old new
    → is_due t (verdict_in old at) ≡ true → is_due t (verdict_in new at) ≡ false
    → due_count t new < due_count t old
due_fewer t at old new set was now = elim (cases_lt at (length old)) [
  | inl below ↦
      let item = item_at new at in
      let sums : sum_by (part t) (slice_set old at item)
      + part t (item_at old at) ≡ sum_by (part t) old + part t item =
      sum_by-set (part t) old at item None below in
      let one : part t (item_at old at) ≡ 1 = ap (λ b. cond b 1 0) was in
      let none : part t item ≡ 0 = ap (λ b. cond b 1 0) now in
      let same : due_count t new
      ≡ sum_by (part t) (slice_set old at item) =
      ap (λ (l : VerdictPlaces). sum_by (part t) l) set in
      omega arith
  | inr past ↦ absurd (false≢true (sym (ap (λ (i : Option (List ℕ × Verdict)).
      is_due t (verdict_of i)) (get_or_past old at None past)) ∙ was))
]

-- ---- keys that are judged one by one

-- Some keys were due and are judged, and nothing else has changed.
pub record IsTurnedSo (summed : ℕ → List ℕ → Col → ℕ → ℕ) (living : ℕ → List ℕ → ℕ → ℕ) (t : ℕ)
    (old new : Watched) (before after : ℕ) (flat : Type 0) : Type 0 where
  pub keys : List (List ℕ)
  pub filter : new.filter ≡ old.filter
  pub due : AreDue t old keys
  pub judged : (key : List ℕ) → is_among keys key ≡ true
      → IsVerdict summed living old.filter t key (verdict_at new.kept key)
  pub others : (key : List ℕ) → is_among keys key ≡ false
      → verdict_at new.kept key ≡ verdict_at old.kept key
  pub few : flat → after ≤ before + 505 * length keys
  pub quiet : IsQuiet t old → after ≡ before

none_same : (key : List ℕ) (keys : List (List ℕ)) → is_among keys key ≡ false
    → AllByRecursion (λ other. same_key key other ≡ false) keys
none_same key [] none = tt
none_same key (k ∷ keys) none = by (same_key key k) refl none (none_same key keys)
  where
    by : (b : Bool) → same_key key k ≡ b → (b || is_among keys key) ≡ false
        → (is_among keys key ≡ false → AllByRecursion (λ other. same_key key other ≡ false) keys)
        → AllByRecursion (λ other. same_key key other ≡ false) (k ∷ keys)
    by true same none rest = absurd (false≢true (sym none))
    by false apart none rest = (apart, rest none)

among_due : (t : ℕ) (w : Watched) (keys : List (List ℕ))
    → AllByRecursion (λ key. is_due t (verdict_at w.kept key) ≡ true) keys → (key : List ℕ)
    → is_among keys key ≡ true → is_due t (verdict_at w.kept key) ≡ true
among_due t w [] all key there = absurd (false≢true there)
among_due t w (k ∷ keys) all key there = ⊎_elim
    (λ same. ap (λ q. is_due t (verdict_at w.kept q)) (one_key key k same) ∙ all.0)
    (λ later. among_due t w keys all.1 key later)
    (or_cases (same_key key k) (is_among keys key) there)

apart_cons : (key : List ℕ) (keys : List (List ℕ))
    → AllByRecursion (λ other. same_key key other ≡ false) keys → IsDistinct same_key keys
    → IsDistinct same_key (key ∷ keys)
unfolding IsDistinct
apart_cons key keys none apart = (none, apart)

no_keys : IsDistinct same_key []
unfolding IsDistinct
no_keys = tt

module _ (summed : ℕ → List ℕ → Col → ℕ → ℕ) (living : ℕ → List ℕ → ℕ → ℕ) (t : ℕ) (old : Watched)
    (before : ℕ) (flat : Type 0) where
  pub so_none : IsTurnedSo summed living t old old before before flat
  so_none = record {
    keys = [];
    filter = refl;
    due = record { due = tt; apart = no_keys };
    judged = λ key there. absurd (false≢true there);
    others = λ key none. refl;
    few = λ _. omega arith;
    quiet = λ _. refl;
  }

  module _ (mid new : Watched) (between after : ℕ) (key : List ℕ)
      (so : IsTurnedSo summed living t old mid before between flat)
      (due : is_due t (verdict_at mid.kept key) ≡ true)
      (touched : IsTouched summed living mid.filter.table key t mid new)
      (few : flat → after ≤ between + 505) where
    unjudged : (b : Bool) → is_among so.keys key ≡ b → b ≡ false
    unjudged true there = absurd (false≢true (sym
        (judged_later summed living old.filter t key (verdict_at mid.kept key)
        (so.judged key there))
        ∙ due))
    unjudged false none = refl

    none : is_among so.keys key ≡ false
    none = unjudged (is_among so.keys key) refl

    was_due : is_due t (verdict_at old.kept key) ≡ true
    was_due = ap (is_due t) (sym (so.others key none)) ∙ due

    judged_too : (q : List ℕ) → is_among (key ∷ so.keys) q ≡ true
        → IsVerdict summed living old.filter t q (verdict_at new.kept q)
    judged_too q there = ⊎_elim
        (λ same.
        let here : key ≡ q = sym (one_key q key same) in
        subst (λ k. IsVerdict summed living old.filter t k (verdict_at new.kept k)) here
        (subst (λ f. IsVerdict summed living f t key (verdict_at new.kept key)) so.filter
        (touched.judged refl)))
        (λ later.
        let apart : q ≢ key = λ same. false≢true (sym none
        ∙ ap (is_among so.keys) (sym same) ∙ later) in
        subst (λ v. IsVerdict summed living old.filter t q v) (sym (touched.others q apart))
        (so.judged q later))
        (or_cases (same_key q key) (is_among so.keys q) there)

    others_too : (q : List ℕ) → is_among (key ∷ so.keys) q ≡ false
        → verdict_at new.kept q ≡ verdict_at old.kept q
    others_too q none = by (same_key q key) refl none
      where
        by : (b : Bool) → same_key q key ≡ b → (b || is_among so.keys q) ≡ false
            → verdict_at new.kept q ≡ verdict_at old.kept q
        by true same none = absurd (false≢true (sym none))
        by false apart none = touched.others q (λ same. false≢true (sym apart
            ∙ ap (λ k. same_key q k) (sym same) ∙ key_itself q)) ∙ so.others q none

    pub so_more : IsTurnedSo summed living t old new before after flat
    so_more = record {
      keys = key ∷ so.keys;
      filter = touched.filter ∙ so.filter;
      due = record {
        due = (was_due, so.due.due);
        apart = apart_cons key so.keys (none_same key so.keys none) so.due.apart;
      };
      judged = judged_too;
      others = others_too;
      few = λ f. let first = so.few f in let second = few f in omega arith;
      quiet = λ q. absurd (false≢true (sym (q key) ∙ was_due));
    }

  module _ (new : Watched) (after : ℕ)
      (so : IsTurnedSo summed living t old new before after flat) where
    pub so_done : IsQuiet t new → IsTurned summed living t old new
    so_done quiet = record {
      filter = so.filter;
      judged = λ key due. judged key (is_among so.keys key) refl due;
      others = λ key stays. others key (is_among so.keys key) refl stays;
    }
      where
        judged : (key : List ℕ) (b : Bool) → is_among so.keys key ≡ b
            → is_due t (verdict_at old.kept key) ≡ true
            → IsVerdict summed living old.filter t key (verdict_at new.kept key)
        judged key true there due = so.judged key there
        judged key false none due = absurd (false≢true (sym (quiet key)
            ∙ ap (is_due t) (so.others key none) ∙ due))

        others : (key : List ℕ) (b : Bool) → is_among so.keys key ≡ b
            → is_due t (verdict_at old.kept key) ≡ false
            → verdict_at new.kept key ≡ verdict_at old.kept key
        others key true there stays = absurd (false≢true (sym stays
            ∙ among_due t old so.keys so.due.due key there))
        others key false none stays = so.others key none

-- a place is judged whose verdict was due
pub turned_place : (summed : ℕ → List ℕ → Col → ℕ → ℕ) (living : ℕ → List ℕ → ℕ → ℕ) (t : ℕ)
    (start : Watched) (old mid new : Watching) (before between after : ℕ) (flat : Type 0) (at : ℕ)
    → IsTurnedSo summed living t start (view_of_watch old) before between flat
    → IsWatchBut at mid → mid.filter ≡ old.filter → mid.places ≡ old.places
    → is_due t (verdict_in mid.places at) ≡ true
    → ((key : List ℕ) → key_at mid.places at ≡ Some key
    → IsTouched summed living mid.filter.table key t (view_of_watch mid) (view_of_watch new))
    → (flat → after ≤ between + 505)
    → IsTurnedSo summed living t start (view_of_watch new) before after flat
turned_place summed living t start old mid new before between after flat at so watch same places due
    touched few =
    let moment = due_moment t (change_in mid.places at) due in
    let own = key_in mid.places at moment.0 moment.1 in
    let view : view_of_watch old ≡ view_of_watch mid =
    λ i. record { filter = sym same i; kept = in_order (sym places i) } in
    so_more summed living t start before flat (view_of_watch mid) (view_of_watch new) between after
    own.0
    (subst (λ (w : Watched). IsTurnedSo summed living t start w before between flat) view so)
    (ap (is_due t) (verdict_here mid.places at own.0 watch.distinct own.1) ∙ due)
    (touched own.0 own.1) few

-- where no verdict in a place is due any more, all that were are judged
pub turned_all : (summed : ℕ → List ℕ → Col → ℕ → ℕ) (living : ℕ → List ℕ → ℕ → ℕ) (t : ℕ)
    (start : Watched) (old new : Watching) (before after : ℕ) (flat : Type 0)
    → IsTurnedSo summed living t start (view_of_watch old) before after flat
    → new.filter ≡ old.filter → new.places ≡ old.places
    → ((p : ℕ) → is_due t (verdict_in new.places p) ≡ false)
    → IsTurned summed living t start (view_of_watch new)
turned_all summed living t start old new before after flat so same places none =
    let view : view_of_watch old ≡ view_of_watch new =
    λ i. record { filter = sym same i; kept = in_order (sym places i) } in
    so_done summed living t start before flat (view_of_watch new) after
    (subst (λ (w : Watched). IsTurnedSo summed living t start w before after flat) view so)
    (quiet_places t new.places none)

-- no place up to the last is due
pub none_due : (t n : ℕ) (places : VerdictPlaces) → length places ≤ n
    → ((p : ℕ) → p < n → is_due t (verdict_in places p) ≡ false)
    → (p : ℕ) → is_due t (verdict_in places p) ≡ false
none_due t n places within below p = elim (cases_lt p n) [
  | inl before ↦ below p before
  | inr past ↦ ap (λ (i : Option (List ℕ × Verdict)). is_due t (verdict_of i))
      (get_or_past places p None (omega arith))
]

-- and none up to this one
pub one_more : (t at n : ℕ) (old new : VerdictPlaces) → IsSetAt at old new → at ≡ n
    → is_due t (verdict_in new at) ≡ false
    → ((p : ℕ) → p < n → is_due t (verdict_in old p) ≡ false)
    → (p : ℕ) → p < n + 1 → is_due t (verdict_in new p) ≡ false
one_more t at n old new set is here below p before = elim (cases_eq p at) [
  | inl same ↦ ap (λ q. is_due t (verdict_in new q)) same ∙ here
  | inr other ↦ ap (λ (i : Option (List ℕ × Verdict)). is_due t (verdict_of i))
      (others_set at old new set p other) ∙ below p (omega arith)
]

pub set_length : (at : ℕ) (old new : VerdictPlaces) → IsSetAt at old new
    → length new ≡ length old
set_length at old new set =
    ap (λ (l : VerdictPlaces). length l) set ∙ length-set old at (item_at new at)
