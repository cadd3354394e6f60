-- Plans of places, as the verdict in one of them changes, and what they say of keys.
use Rattle.std.proofs.Common.{◌≡◌, ℕ, zero, suc, ◌+◌, ◌<◌, ◌≤◌, Bool, true, false, cond, List, []}
use Rattle.std.proofs.Common.{◌∷◌, Option, Some, None, length, refl, sym, ap, ◌∙◌, subst, inl, inr}
use Rattle.std.proofs.Common.{◌⊎◌, arith, min}
use Rattle.std.specs.Prelude.{IfNone, unwrap_or}
use Rattle.std.specs.Option.{option_map}
use Rattle.std.proofs.lemmas.Bool.{cases_eq, cases_lt}
use Rattle.std.proofs.lemmas.List.{get_or_past}
use Rattle.std.proofs.lemmas.Option.{none-some, same_Some}
use Rattle.agg_types.specs.declared.limits.TheConstants.{MOST_CONDS}
use Rattle.place_index.specs.Places.{item_at, key_at, in_order, AreDistinct}
use Rattle.place_index.proofs.Ordered.{at_key, found, lookup-held, lookup-in_order, same_if_at}
use Rattle.place_index.proofs.Ordered.{value_of_item}
use Rattle.place_plans.specs.Plans.{plan_at}
use Rattle.standing_filters.specs.Placed.{AreAlikeBut, VerdictPlaces, change_in}
use Rattle.standing_filters.specs.Placed.{earlier_of, verdict_in}
use Rattle.standing_filters.specs.Plans.{ArePlanned, IsFirstOf, IsPlanned, IsWatch, IsWatchBut}
use Rattle.standing_filters.specs.Plans.{Planning, Watching}
use Rattle.standing_filters.specs.Turns.{has_come, is_due}
use Rattle.standing_filters.specs.Verdicts.{out}
use Rattle.standing_filters.specs.Watched.{IsFirstChange, verdict_at}
use Rattle.standing_filters.specs.declared.judging.Verdict.{Verdict}

-- ---- what holds of a filter
pub watch_but : (at : ℕ) (w : Watching) → IsWatch w → IsWatchBut at w
watch_but at w watch = record {
  few = watch.few;
  distinct = watch.distinct;
  planned = λ known p other. watch.planned known p;
}

-- the verdict of what lies in a place
abbrev pub verdict_of : Option (List ℕ × Verdict) → Verdict
verdict_of item = unwrap_or (option_map (λ (x : List ℕ × Verdict). x.1) item) out

-- the change of what lies in a place
abbrev pub change_of : Option (List ℕ × Verdict) → Option ℕ
change_of item = (unwrap_or (option_map (λ (x : List ℕ × Verdict). x.1) item) out).next

-- the key of what lies in a place
abbrev key_of : Option (List ℕ × Verdict) → Option (List ℕ)
key_of item = option_map (λ (x : List ℕ × Verdict). x.0) item

pub watch_again : (at : ℕ) (old new : Watching) → IsWatchBut at old → new.filter ≡ old.filter
    → AreDistinct new.places → AreAlikeBut at old.places new.places
    → (new.plans.lost ≡ false → IsPlanned at (change_in new.places at) old.plans new.plans)
    → IsWatch new
watch_again at old new watch same distinct others planned = record {
  few = subst (λ f. length f.conds ≤ MOST_CONDS) (sym same) watch.few;
  distinct = distinct;
  planned = λ known p. let told = planned known in elim (cases_eq p at) [
    | inl here ↦ ap (λ q. plan_at new.plans.moments q) here ∙ told.here
        ∙ ap (λ q. change_in new.places q) (sym here)
    | inr other ↦ told.others p other ∙ watch.planned told.known p other
        ∙ ap change_of (sym (others p other))
  ];
}

pub watch_planned : (old new : Watching) → IsWatch old → new.filter ≡ old.filter
    → new.places ≡ old.places → ArePlanned new.places new.plans → IsWatch new
watch_planned old new watch same places planned = record {
  few = subst (λ f. length f.conds ≤ MOST_CONDS) (sym same) watch.few;
  distinct = subst (λ (l : VerdictPlaces). AreDistinct l) (sym places) watch.distinct;
  planned = planned;
}

-- ---- keys and their places
place_found : (places : VerdictPlaces) (key : List ℕ) (v : Verdict) → found places key ≡ Some v
    → (p : ℕ) × (item_at places p ≡ Some (key, v))
place_found [] key v is = cc
place_found (None ∷ places) key v is =
    let rest = place_found places key v is in (suc rest.0, rest.1)
place_found (Some x ∷ places) key v is =
    by (at_key x.0 key) refl is (place_found places key v)
  where
    by : (b : Bool) → at_key x.0 key ≡ b → cond b (Some x.1) (found places key) ≡ Some v
        → (found places key ≡ Some v → (p : ℕ) × (item_at places p ≡ Some (key, v)))
        → (p : ℕ) × (item_at (Some x ∷ places) p ≡ Some (key, v))
    by true same is more =
        let k = same_if_at x.0 key same in
        let value = same_Some x.1 v is in
        (zero, λ i. Some (k i, value i))
    by false apart is more = let rest = more is in (suc rest.0, rest.1)

-- what holds of `out` and of the verdict in the key's place holds of the verdict on it
pub in_place : (places : VerdictPlaces) (key : List ℕ) (P : Verdict → Type 0) → P out
    → ((p : ℕ) → key_at places p ≡ Some key → P (verdict_in places p))
    → P (verdict_at (in_order places) key)
in_place places key P none each =
    subst (λ (o : Option Verdict). P (unwrap_or o out)) (sym (lookup-in_order places key))
    (by (found places key) refl)
  where
    by : (o : Option Verdict) → found places key ≡ o → P (unwrap_or o out)
    by None is = none
    by (Some v) is =
        let there = place_found places key v is in
        subst P (ap (λ (i : Option (List ℕ × Verdict)).
        unwrap_or (option_map (λ (x : List ℕ × Verdict). x.1) i) out) there.1)
        (each there.0 (ap (option_map (λ (x : List ℕ × Verdict). x.0)) there.1))

pub verdict_here : (places : VerdictPlaces) (p : ℕ) (key : List ℕ) → AreDistinct places
    → key_at places p ≡ Some key → verdict_at (in_order places) key ≡ verdict_in places p
verdict_here places p key distinct own =
    let value = value_of_item (item_at places p) key own in
    ap (λ o. unwrap_or o out) (lookup-held places p key value.0 distinct own value.1)
    ∙ ap (λ o. unwrap_or o out) (sym value.1)

-- a place whose verdict changes has a key
pub key_in : (places : VerdictPlaces) (p u : ℕ) → change_in places p ≡ Some u
    → (key : List ℕ) × (key_at places p ≡ Some key)
key_in places p u is = by (item_at places p) is
  where
    by : (i : Option (List ℕ × Verdict)) → change_of i ≡ Some u
        → (key : List ℕ) × (option_map (λ (x : List ℕ × Verdict). x.0) i ≡ Some key)
    by None is = absurd (none-some u is)
    by (Some x) is = (x.0, refl)

-- where no verdict in a place changes up to t, no verdict on a key does
pub quiet_places : (t : ℕ) (places : VerdictPlaces)
    → ((p : ℕ) → is_due t (verdict_in places p) ≡ false)
    → (key : List ℕ) → is_due t (verdict_at (in_order places) key) ≡ false
quiet_places t places none key =
    in_place places key (λ v. is_due t v ≡ false) refl (λ p own. none p)

-- ---- the first change
never : (o : Option ℕ) → ((u : ℕ) → o ≡ Some u → ⊥) → o ≡ None
never None h = refl
never (Some u) h = absurd (h u refl)

pub first_is : (places : VerdictPlaces) (first : Option ℕ) → AreDistinct places
    → IsFirstOf (change_in places) first → IsFirstChange (in_order places) first
first_is places None distinct none = λ key.
    in_place places key (λ v. v.next ≡ None) refl (λ p own. none p)
first_is places (Some t) distinct first =
    let own = key_in places first.0.0 t first.0.1 in (
      (
        own.0,
        ap (λ (v : Verdict). v.next) (verdict_here places first.0.0 own.0 distinct own.1)
            ∙ first.0.1,
      ),
      λ key u. in_place places key (λ v. v.next ≡ Some u → t ≤ u)
          (λ is. absurd (none-some u is)) (λ p own is. first.1 p u is),
    )

-- the first of other moments that are the same
pub first_same : (one other : ℕ → Option ℕ) (first : Option ℕ) → ((p : ℕ) → one p ≡ other p)
    → IsFirstOf one first → IsFirstOf other first
first_same one other None same none = λ p. sym (same p) ∙ none p
first_same one other (Some t) same first = (
  (first.0.0, sym (same first.0.0) ∙ first.0.1),
  λ p u is. first.1 p u (same p ∙ is),
)

-- ---- the first of moments, one by one

-- the least of the moments of the places below a number, or none where none has one
abbrev pub IsFirstBelow : (ℕ → Option ℕ) → ℕ → Option ℕ → Type 0
IsFirstBelow moment n None = (p : ℕ) → p < n → moment p ≡ None
IsFirstBelow moment n (Some t) = ((p : ℕ) × (moment p ≡ Some t))
    × ((p u : ℕ) → p < n → moment p ≡ Some u → t ≤ u)

pub first_none : (moment : ℕ → Option ℕ) → IsFirstBelow moment 0 None
first_none moment = λ p below. absurd (omega arith)

module _ (moment : ℕ → Option ℕ) (n : ℕ) where
  -- what holds below a number and there
  up_to : (P : ℕ → Type 0) → ((p : ℕ) → p < n → P p) → P n → (p : ℕ) → p < n + 1 → P p
  up_to P all here p below = elim (cases_eq p n) [
    | inl same ↦ subst P (sym same) here
    | inr other ↦ all p (omega arith)
  ]

  pub first_step : (first : Option ℕ) → IsFirstBelow moment n first
      → IsFirstBelow moment (n + 1) (earlier_of first (moment n))
  first_step None none = by (moment n) refl
    where
      by : (o : Option ℕ) → moment n ≡ o → IsFirstBelow moment (n + 1) (earlier_of None o)
      by None is = up_to (λ p. moment p ≡ None) none is
      by (Some t) is = (
        (n, is),
        λ p u below. up_to (λ q. moment q ≡ Some u → t ≤ u)
            (λ q under held. absurd (none-some u (sym (none q under) ∙ held)))
            (λ held. let same : t ≡ u = same_Some t u (sym is ∙ held) in omega arith) p below,
      )
  first_step (Some s) least = by (moment n) refl
    where
      by : (o : Option ℕ) → moment n ≡ o → IsFirstBelow moment (n + 1) (earlier_of (Some s) o)
      by None is = (
        least.0,
        λ p u below. up_to (λ q. moment q ≡ Some u → s ≤ u) (λ q under held. least.1 q u under held)
            (λ held. absurd (none-some u (sym is ∙ held))) p below,
      )
      by (Some t) is = (
        which t is (cases_lt t s),
        λ p u below. up_to (λ q. moment q ≡ Some u → min s t ≤ u)
            (λ q under held. let most = least.1 q u under held in omega arith)
            (λ held. let same : t ≡ u = same_Some t u (sym is ∙ held) in omega arith) p below,
      )
        where
          which : (t : ℕ) → moment n ≡ Some t → (t < s) ⊎ (s ≤ t)
              → (p : ℕ) × (moment p ≡ Some (min s t))
          which t is (inl before) =
              let one : t ≡ min s t = omega arith in (n, is ∙ ap Some one)
          which t is (inr since) =
              let one : s ≡ min s t = omega arith in (least.0.0, least.0.1 ∙ ap Some one)

  pub first_all : (first : Option ℕ) → IsFirstBelow moment n first
      → ((p : ℕ) → n ≤ p → moment p ≡ None) → IsFirstOf moment first
  first_all None none past = λ p. elim (cases_lt p n) [
    | inl below ↦ none p below
    | inr behind ↦ past p behind
  ]
  first_all (Some t) least past = (
    least.0,
    λ p u held. elim (cases_lt p n) [
      | inl below ↦ least.1 p u below held
      | inr behind ↦ absurd (none-some u (sym (past p behind) ∙ held))
    ],
  )

-- there is nothing behind the last place
pub no_change : (places : VerdictPlaces) (p : ℕ) → length places ≤ p → change_in places p ≡ None
no_change places p past = ap change_of (get_or_past places p None past)

-- where no plan has come, no verdict changes
pub none_come : (t : ℕ) (taken : Option ℕ) (w inside : Watching) (new : Planning) → IsWatch w
    → inside ≡ w → IfNone taken (new ≡ inside.plans)
    → IfNone taken (inside.plans.lost ≡ false
    → (p : ℕ) → has_come t (plan_at inside.plans.moments p) ≡ false)
    → IfNone taken (new.lost ≡ false → (p : ℕ) → is_due t (verdict_in inside.places p) ≡ false)
none_come t (Some at) w inside new watch view same none = tt
none_come t None w inside new watch view same none = λ known p.
    let lost : inside.plans.lost ≡ false = ap (λ (p : Planning). p.lost) (sym same) ∙ known in
    let its : IsWatch inside = subst IsWatch (sym view) watch in
    ap (has_come t) (sym (its.planned lost p)) ∙ none lost p

-- all places below a number have their plans, and those behind have no verdict
pub watch_all : (old new : Watching) (n : ℕ) → IsWatch old → new.filter ≡ old.filter
    → new.places ≡ old.places → length old.places ≤ n
    → (new.plans.lost ≡ false → (p : ℕ) → p < n
    → plan_at new.plans.moments p ≡ change_in old.places p)
    → (new.plans.lost ≡ false → (p : ℕ) → n ≤ p → plan_at new.plans.moments p ≡ None)
    → IsWatch new
watch_all old new n watch same places within planned others =
    watch_planned old new watch same places (λ known p. each known p (cases_lt p n)
    ∙ ap (λ (l : VerdictPlaces). change_in l p) (sym places))
  where
    each : new.plans.lost ≡ false → (p : ℕ) → (p < n) ⊎ (n ≤ p)
        → plan_at new.plans.moments p ≡ change_in old.places p
    each known p (inl below) = planned known p below
    each known p (inr past) = others known p past ∙ sym (no_change old.places p (omega arith))
