-- The keys that a filter holds.
use Rattle.std.proofs.Common.{◌≡◌, ℕ, Bool, true, false, cond, List, [], ◌∷◌, Option, Some, None}
use Rattle.std.proofs.Common.{is_some, refl, sym, ap, ◌∙◌}
use Rattle.std.specs.Prelude.{filter, map, unwrap_or}
use Rattle.std.proofs.lemmas.Cmp.{eq_by_cmp_equiv, nat_list_cmp_total}
use Rattle.std.proofs.lemmas.Map.Entries.{lookup-filter-values, option_filter}
use Rattle.std.proofs.lemmas.Map.Keys.{IsDistinct-from_sorted, sorted_head, sorted_tail}
use Rattle.std.proofs.lemmas.Map.Made.{is_some-lookup}
use Rattle.std.specs.BTreeMap.{is_at}
use Rattle.std.specs.Cmp.Lexicographic.{slice_cmp}
use Rattle.std.specs.List.{AllByRecursion, list_any}
use Rattle.std.specs.List.Sorted.{IsStrictlySortedBy}
use Rattle.std.specs.Map.{keys_of, lookup}
use Rattle.std.specs.Ordering.{nat_cmp}
use Rattle.std.specs.declared.cmp.Ordering.TheVariants.{Less}
use Rattle.standing_filters.specs.Verdicts.{out}
use Rattle.standing_filters.specs.Watched.{keys_held, verdict_at}
use Rattle.standing_filters.specs.declared.judging.Verdict.{Verdict}

abbrev KeyVerdicts : Type 0
KeyVerdicts = List (List ℕ × Verdict)

all_held : (P : List ℕ → Type 0) (kept : KeyVerdicts) → AllByRecursion P (keys_of kept)
    → AllByRecursion P (keys_held kept)
all_held P [] h = tt
all_held P (e ∷ kept) h = by e.1.holds h.0 (all_held P kept h.1)
  where
    by : (b : Bool) → P e.0 → AllByRecursion P (keys_held kept)
        → AllByRecursion P (map (λ e. e.0) (cond b (e ∷ filter (λ e. e.1.holds) kept)
        (filter (λ e. e.1.holds) kept)))
    by true here rest = (here, rest)
    by false here rest = rest

pub sorted_cons : (key : List ℕ) (keys : List (List ℕ))
    → AllByRecursion (λ y. slice_cmp nat_cmp key y ≡ Less) keys
    → IsStrictlySortedBy (slice_cmp nat_cmp) keys
    → IsStrictlySortedBy (slice_cmp nat_cmp) (key ∷ keys)
unfolding IsStrictlySortedBy
sorted_cons key keys above sorted = (above, sorted)

pub sorted_none : IsStrictlySortedBy (slice_cmp nat_cmp) []
unfolding IsStrictlySortedBy
sorted_none = tt

pub held_ordered : (kept : KeyVerdicts) → IsStrictlySortedBy (slice_cmp nat_cmp) (keys_of kept)
    → IsStrictlySortedBy (slice_cmp nat_cmp) (keys_held kept)
held_ordered [] h = sorted_none
held_ordered (e ∷ kept) h = by e.1.holds (all_held (λ y. slice_cmp nat_cmp e.0 y ≡ Less) kept
    (sorted_head (slice_cmp nat_cmp) e.0 (keys_of kept) h))
    (held_ordered kept (sorted_tail (slice_cmp nat_cmp) e.0 (keys_of kept) h))
  where
    by : (b : Bool) → AllByRecursion (λ y. slice_cmp nat_cmp e.0 y ≡ Less) (keys_held kept)
        → IsStrictlySortedBy (slice_cmp nat_cmp) (keys_held kept)
        → IsStrictlySortedBy (slice_cmp nat_cmp)
        (map (λ e. e.0) (cond b (e ∷ filter (λ e. e.1.holds) kept) (filter (λ e. e.1.holds) kept)))
    by true above sorted = sorted_cons e.0 (keys_held kept) above sorted
    by false above sorted = sorted

holds_kept : (v : Verdict) (b : Bool) → v.holds ≡ b → is_some (cond b (Some v) None) ≡ b
holds_kept v true is = refl
holds_kept v false is = refl

held_found : (found : Option Verdict) → is_some (option_filter (λ v. v.holds) found)
    ≡ (unwrap_or found out).holds
held_found None = refl
held_found (Some v) = holds_kept v v.holds refl

pub held_exact : (kept : KeyVerdicts) → IsStrictlySortedBy (slice_cmp nat_cmp) (keys_of kept)
    → (key : List ℕ) → list_any (is_at (slice_cmp nat_cmp key)) (keys_held kept)
    ≡ (verdict_at kept key).holds
held_exact kept sorted key =
    sym (is_some-lookup (is_at (slice_cmp nat_cmp key)) (filter (λ e. e.1.holds) kept))
    ∙ ap is_some (lookup-filter-values (eq_by_cmp_equiv nat_list_cmp_total) (λ v. v.holds) key kept
    (IsDistinct-from_sorted (slice_cmp nat_cmp) (keys_of kept) sorted))
    ∙ held_found (lookup (is_at (slice_cmp nat_cmp key)) kept)
