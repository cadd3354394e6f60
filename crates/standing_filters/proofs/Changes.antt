-- The keys whose verdicts change, in order.
use Rattle.std.proofs.Common.{◌≡◌, ◌==◌, ◌&&◌, ◌||◌, ℕ, Bool, true, false, cond, List, [], ◌∷◌}
use Rattle.std.proofs.Common.{Option, Some, None, refl, sym, ap, ◌∙◌}
use Rattle.std.specs.Prelude.{map, unwrap_or}
use Rattle.std.proofs.lemmas.Map.Keys.{sorted_head, sorted_tail}
use Rattle.std.specs.Cmp.Lexicographic.{slice_cmp}
use Rattle.std.specs.List.{AllByRecursion}
use Rattle.std.specs.List.Sorted.{IsStrictlySortedBy}
use Rattle.std.specs.Map.{keys_of, lookup}
use Rattle.std.specs.Ordering.{nat_cmp}
use Rattle.std.specs.declared.cmp.Ordering.TheVariants.{Less}
use Rattle.place_index.proofs.Ordered.{at_key, same_if_at}
use Rattle.place_index.proofs.Sorted.{above_first, lookup-above}
use Rattle.standing_filters.specs.Plans.{IsPlanOf, changes_of, has_plan, is_moment, with_change}
use Rattle.standing_filters.specs.Verdicts.{out}
use Rattle.standing_filters.specs.Watched.{verdict_at}
use Rattle.standing_filters.specs.declared.judging.Verdict.{Verdict}
use Rattle.standing_filters.proofs.HeldKeys.{sorted_cons, sorted_none}

abbrev KeyVerdicts : Type 0
KeyVerdicts = List (List ℕ × Verdict)

abbrev IsSorted : List (List ℕ) → Type 0
IsSorted keys = IsStrictlySortedBy (slice_cmp nat_cmp) keys

-- an entry is another, or of another key
other_key : (m : Option ℕ) (key : List ℕ) (rest : List (ℕ × List ℕ)) (e : ℕ × List ℕ)
    → at_key e.1 key ≡ false → has_plan (with_change m key rest) e ≡ has_plan rest e
other_key None key rest e apart = refl
other_key (Some t) key rest e apart =
    ap (λ b. (e.0 == t && b) || has_plan rest e) apart ∙ by (e.0 == t)
  where
    by : (b : Bool) → ((b && false) || has_plan rest e) ≡ has_plan rest e
    by true = refl
    by false = refl

this_key : (m : Option ℕ) (key : List ℕ) (rest : List (ℕ × List ℕ)) (e : ℕ × List ℕ)
    → at_key e.1 key ≡ true → has_plan rest e ≡ false
    → has_plan (with_change m key rest) e ≡ is_moment m e.0
this_key None key rest e same none = none
this_key (Some t) key rest e same none =
    ap (λ b. (e.0 == t && b) || has_plan rest e) same
    ∙ ap (λ b. (e.0 == t && true) || b) none ∙ by (e.0 == t)
  where
    by : (b : Bool) → ((b && true) || false) ≡ b
    by true = refl
    by false = refl

pub changes_exact : (kept : KeyVerdicts) → IsSorted (keys_of kept) → IsPlanOf kept (changes_of kept)
changes_exact [] sorted e = refl
changes_exact (x ∷ kept) sorted e =
    by (at_key e.1 x.0) refl
    (changes_exact kept (sorted_tail (slice_cmp nat_cmp) x.0 (keys_of kept) sorted) e)
  where
    none : at_key e.1 x.0 ≡ true → verdict_at kept e.1 ≡ out
    none same = ap (λ o. unwrap_or o out) (ap (λ k. lookup (at_key k) kept)
        (same_if_at e.1 x.0 same)
        ∙ lookup-above (slice_cmp nat_cmp) x.0 kept
        (above_first (slice_cmp nat_cmp) x.0 kept sorted))

    by : (b : Bool) → at_key e.1 x.0 ≡ b
        → has_plan (changes_of kept) e ≡ is_moment (verdict_at kept e.1).next e.0
        → has_plan (with_change x.1.next x.0 (changes_of kept)) e
        ≡ is_moment (unwrap_or (cond (at_key e.1 x.0) (Some x.1) (lookup (at_key e.1) kept))
        out).next e.0
    by true same rest =
        this_key x.1.next x.0 (changes_of kept) e same
        (rest ∙ ap (λ (v : Verdict). is_moment v.next e.0) (none same))
        ∙ sym (ap (λ b. is_moment (unwrap_or (cond b (Some x.1) (lookup (at_key e.1) kept))
        out).next e.0) same)
    by false apart rest =
        other_key x.1.next x.0 (changes_of kept) e apart ∙ rest
        ∙ sym (ap (λ b. is_moment (unwrap_or (cond b (Some x.1) (lookup (at_key e.1) kept))
        out).next e.0) apart)

-- the keys of entries
abbrev keys_in : List (ℕ × List ℕ) → List (List ℕ)
keys_in entries = map (λ e. e.1) entries

all_changes : (P : List ℕ → Type 0) (kept : KeyVerdicts) → AllByRecursion P (keys_of kept)
    → AllByRecursion P (keys_in (changes_of kept))
all_changes P [] all = tt
all_changes P (x ∷ kept) all = by x.1.next (all_changes P kept all.1)
  where
    by : (m : Option ℕ) → AllByRecursion P (keys_in (changes_of kept))
        → AllByRecursion P (keys_in (with_change m x.0 (changes_of kept)))
    by None rest = rest
    by (Some t) rest = (all.0, rest)

pub changes_ordered : (kept : KeyVerdicts) → IsSorted (keys_of kept)
    → IsSorted (keys_in (changes_of kept))
changes_ordered [] sorted = sorted_none
changes_ordered (x ∷ kept) sorted =
    by x.1.next
    (all_changes (λ y. slice_cmp nat_cmp x.0 y ≡ Less) kept
    (sorted_head (slice_cmp nat_cmp) x.0 (keys_of kept) sorted))
    (changes_ordered kept (sorted_tail (slice_cmp nat_cmp) x.0 (keys_of kept) sorted))
  where
    by : (m : Option ℕ)
        → AllByRecursion (λ y. slice_cmp nat_cmp x.0 y ≡ Less) (keys_in (changes_of kept))
        → IsSorted (keys_in (changes_of kept))
        → IsSorted (keys_in (with_change m x.0 (changes_of kept)))
    by None above rest = rest
    by (Some t) above rest = sorted_cons x.0 (keys_in (changes_of kept)) above rest
