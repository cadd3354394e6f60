-- What plans say of each place as one comes or goes, and how many are due.
use Rattle.std.proofs.Common.{◌≡◌, ◌≢◌, ℕ, zero, suc, ◌+◌, ◌-◌, ◌*◌, ◌<◌, ◌≤◌, List, [], ◌∷◌, ◌++◌}
use Rattle.std.proofs.Common.{length, Option, Some, None, refl, ap, sym, ◌∙◌, arith, cond}
use Rattle.std.proofs.Common.{inl, inr, replicate, true, Bool}
use Rattle.std.proofs.lemmas.Bool.{cases_lt, lt-leb}
use Rattle.std.proofs.lemmas.List.{get_or-set_same, get_or-set_other, get_or_past, set-get_or}
use Rattle.std.proofs.lemmas.List.{length-set, length-append, length-replicate}
use Rattle.std.proofs.lemmas.List.Sums.{sum_by-set, sum_by-append, count_by-le-length}
use Rattle.std.proofs.lemmas.Option.{none-some}
use Rattle.std.proofs.lemmas.List.Folds.{sum_by-replicate}
use Rattle.std.specs.Prelude.{slice_set, slice_index_or, count_by, sum_by, is_some}
use Rattle.place_plans.specs.Plans.{padded, plan_at, planned, cancelled, is_due, count_due}
use Rattle.place_plans.proofs.Links.{at_padded, within_padded, padded_enough}

pub planned_here : (plans : List (Option ℕ)) (p at : ℕ) → plan_at (planned plans p at) p ≡ Some at
planned_here plans p at =
    get_or-set_same (padded plans (p + 1)) p (Some at) None (within_padded plans p)

pub planned_else : (plans : List (Option ℕ)) (p at q : ℕ) → q ≢ p
    → plan_at (planned plans p at) q ≡ plan_at plans q
planned_else plans p at q other =
    get_or-set_other (padded plans (p + 1)) p q (Some at) None other
    ∙ at_padded plans (p + 1) q

pub cancelled_here : (plans : List (Option ℕ)) (p : ℕ) → plan_at (cancelled plans p) p ≡ None
cancelled_here plans p = elim (cases_lt p (length plans)) [
  | inl below ↦ get_or-set_same plans p None None below
  | inr past ↦
      let m = length-set plans p None in
      get_or_past (slice_set plans p None) p None (omega arith)
]

pub cancelled_else : (plans : List (Option ℕ)) (p q : ℕ) → q ≢ p
    → plan_at (cancelled plans p) q ≡ plan_at plans q
cancelled_else plans p q other = get_or-set_other plans p q None None other

past_none : (xs : List (Option ℕ)) (i : ℕ) (y : Option ℕ) → length xs ≤ i
    → slice_set xs i y ≡ xs
past_none [] zero y past = refl
past_none [] (suc i) y past = refl
past_none (x ∷ xs) zero y past = absurd (omega arith)
past_none (x ∷ xs) (suc i) y past = ap (λ ys. x ∷ ys) (past_none xs i y (omega arith))

-- sums to which nothing adds nothing
module _ (g : Option ℕ → ℕ) (nothing : g None ≡ 0) where
  sum_nothing : (k : ℕ) → sum_by g (replicate k None) ≡ 0
  sum_nothing k =
      let all : sum_by g (replicate k None) ≡ k * g None = sum_by-replicate g k None in
      let none : k * g None ≡ k * 0 = ap (λ n. k * n) nothing in
      omega arith

  sum_behind : (xs : List (Option ℕ)) (k : ℕ)
      → sum_by g (xs ++ replicate k None) ≡ sum_by g xs
  sum_behind xs k =
      let all : sum_by g (xs ++ replicate k None) ≡ sum_by g xs + sum_by g (replicate k None) =
      sum_by-append g xs (replicate k None) in
      let none : sum_by g (replicate k None) ≡ 0 = sum_nothing k in
      omega arith

  pub sum_cancelled : (xs : List (Option ℕ)) (p : ℕ)
      → sum_by g (cancelled xs p) + g (plan_at xs p) ≡ sum_by g xs
  sum_cancelled xs p = elim (cases_lt p (length xs)) [
    | inl below ↦
        let set : sum_by g (slice_set xs p None) + g (slice_index_or xs p None)
        ≡ sum_by g xs + g None = sum_by-set g xs p None None below in
        omega arith
    | inr past ↦
        let none : g (slice_index_or xs p None) ≡ 0 =
        ap g (get_or_past xs p None past) ∙ nothing in
        let same : sum_by g (slice_set xs p None) ≡ sum_by g xs =
        ap (sum_by g) (past_none xs p None past) in
        omega arith
  ]

  pub sum_planned : (xs : List (Option ℕ)) (p at : ℕ)
      → sum_by g (planned xs p at) + g (plan_at xs p) ≡ sum_by g xs + g (Some at)
  sum_planned xs p at =
      let ys = padded xs (p + 1) in
      let set : sum_by g (slice_set ys p (Some at)) + g (slice_index_or ys p None)
      ≡ sum_by g ys + g (Some at) = sum_by-set g ys p (Some at) None (within_padded xs p) in
      let here : g (slice_index_or ys p None) ≡ g (slice_index_or xs p None) =
      ap g (at_padded xs (p + 1) p) in
      let same : sum_by g ys ≡ sum_by g xs = sum_behind xs (p + 1 - length xs) in
      omega arith

-- a place's part in a count
abbrev part : (Option ℕ → Bool) → Option ℕ → ℕ
part f x = cond (f x) 1 0

pub counts_cancelled : (plans : List (Option ℕ)) (p m : ℕ) → plan_at plans p ≡ Some m
    → count_by is_some (cancelled plans p) + 1 ≡ count_by is_some plans
counts_cancelled plans p m is =
    let set : sum_by (part is_some) (cancelled plans p) + part is_some (plan_at plans p)
    ≡ sum_by (part is_some) plans = sum_cancelled (part is_some) refl plans p in
    let one : part is_some (plan_at plans p) ≡ 1 = ap (part is_some) is in
    omega arith

pub counts_added : (plans : List (Option ℕ)) (p at : ℕ) → plan_at plans p ≡ None
    → count_by is_some (planned plans p at) ≡ count_by is_some plans + 1
counts_added plans p at none =
    let set : sum_by (part is_some) (planned plans p at) + part is_some (plan_at plans p)
    ≡ sum_by (part is_some) plans + part is_some (Some at) =
    sum_planned (part is_some) refl plans p at in
    let was : part is_some (plan_at plans p) ≡ 0 = ap (part is_some) none in
    let one : part is_some (Some at) ≡ 1 = refl in
    omega arith

pub counts_moved : (plans : List (Option ℕ)) (p m at : ℕ) → plan_at plans p ≡ Some m
    → count_by is_some (planned plans p at) ≡ count_by is_some plans
counts_moved plans p m at is =
    let set : sum_by (part is_some) (planned plans p at) + part is_some (plan_at plans p)
    ≡ sum_by (part is_some) plans + part is_some (Some at) =
    sum_planned (part is_some) refl plans p at in
    let was : part is_some (plan_at plans p) ≡ 1 = ap (part is_some) is in
    let one : part is_some (Some at) ≡ 1 = refl in
    omega arith

-- a plan behind t makes no more due by t
pub due_planned : (t : ℕ) (plans : List (Option ℕ)) (p at : ℕ) → t < at
    → count_due t (planned plans p at) ≤ count_due t plans
due_planned t plans p at later =
    let set : sum_by (part (is_due t)) (planned plans p at) + part (is_due t) (plan_at plans p)
    ≡ sum_by (part (is_due t)) plans + part (is_due t) (Some at) =
    sum_planned (part (is_due t)) refl plans p at in
    let none : part (is_due t) (Some at) ≡ 0 = ap (λ b. cond b 1 0) (lt-leb at t later) in
    omega arith

pub due_cancelled : (t : ℕ) (plans : List (Option ℕ)) (p : ℕ)
    → count_due t (cancelled plans p) ≤ count_due t plans
due_cancelled t plans p =
    let set : sum_by (part (is_due t)) (cancelled plans p) + part (is_due t) (plan_at plans p)
    ≡ sum_by (part (is_due t)) plans = sum_cancelled (part (is_due t)) refl plans p in
    omega arith

pub due_taken : (t : ℕ) (plans : List (Option ℕ)) (p : ℕ) → is_due t (plan_at plans p) ≡ true
    → count_due t (cancelled plans p) + 1 ≡ count_due t plans
due_taken t plans p due =
    let set : sum_by (part (is_due t)) (cancelled plans p) + part (is_due t) (plan_at plans p)
    ≡ sum_by (part (is_due t)) plans = sum_cancelled (part (is_due t)) refl plans p in
    let one : part (is_due t) (plan_at plans p) ≡ 1 = ap (λ b. cond b 1 0) due in
    omega arith

pub cancelled_none : (plans : List (Option ℕ)) (p : ℕ) → plan_at plans p ≡ None
    → cancelled plans p ≡ plans
cancelled_none plans p none = ap (slice_set plans p) (sym none) ∙ set-get_or plans p None

pub planned_same : (plans : List (Option ℕ)) (p at : ℕ) → plan_at plans p ≡ Some at
    → planned plans p at ≡ plans
planned_same plans p at is = elim (cases_lt p (length plans)) [
  | inl below ↦
      let within : p + 1 ≤ length plans = omega arith in
      ap (λ ps. slice_set ps p (Some at)) (padded_enough plans (p + 1) within)
      ∙ ap (slice_set plans p) (sym is) ∙ set-get_or plans p None
  | inr past ↦ absurd (none-some at (sym (get_or_past plans p None past) ∙ is))
]

-- no more places have plans than there are
pub counts_within : (plans : List (Option ℕ)) → count_by is_some plans ≤ length plans
counts_within plans = count_by-le-length is_some plans

pub length_planned : (plans : List (Option ℕ)) (p at : ℕ)
    → length (planned plans p at) ≤ length plans + (p + 1 - length plans)
length_planned plans p at =
    omega (
      arith,
      length-set (padded plans (p + 1)) p (Some at),
      length-append plans (replicate {A = Option ℕ} (p + 1 - length plans) None),
      length-replicate {A = Option ℕ} (p + 1 - length plans) None,
    )
