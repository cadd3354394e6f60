-- A value that is written over the one of a key that is there.
use Rattle.std.proofs.Common.{◌≡◌, cond, List, [], ◌∷◌, refl, ap, arith}
use Rattle.std.specs.Prelude.{Some, None}
use Rattle.std.specs.declared.cmp.Ordering.{Ordering}
use Rattle.std.specs.declared.cmp.Ordering.TheVariants.{Less, Equal, Greater}
use Rattle.std.specs.Ordering.{match_ordering, is_eq}
use Rattle.std.specs.Cmp.{IsTotalOrder}
use Rattle.std.specs.Map.{keys_of, lookup, set_value}
use Rattle.std.specs.BTreeMap.{insert_entry, is_at}
use Rattle.std.specs.List.Sorted.{IsStrictlySortedBy}
use Rattle.std.proofs.lemmas.Map.Entries.{lookup_at_gap}

module _ {K X : Type 0} (R : K → K → Ordering) (total : IsTotalOrder R) (k : K) (v w : X) where
  others : (e : K × X) (es : List (K × X)) → IsStrictlySortedBy R (keys_of (e ∷ es))
      → IsStrictlySortedBy R (keys_of es)
  unfolding IsStrictlySortedBy
  others e es sorted = sorted.1

  -- a key below the first isn't there
  below : (e : K × X) (es : List (K × X)) → IsStrictlySortedBy R (keys_of (e ∷ es))
      → R k e.0 ≡ Less → lookup (is_at (R k)) (e ∷ es) ≡ None
  below e es sorted less = lookup_at_gap total k (e ∷ es) 0 sorted
      (λ j f before at. absurd (omega (arith, before)))
      (λ f at. let same : e ≡ f = cc in rw (← same) less)

  -- it is what is put in at that key
  pub written_is_put : (es : List (K × X)) → IsStrictlySortedBy R (keys_of es)
      → lookup (is_at (R k)) es ≡ Some v → set_value (is_at (R k)) es w ≡ insert_entry R es k w
  written_is_put [] sorted found = cc
  written_is_put (e ∷ es) sorted found =
      by (R k e.0) refl found (written_is_put es (others e es sorted))
    where
      by : (r : Ordering) → R k e.0 ≡ r
          → cond (is_eq r) (Some e.1) (lookup (is_at (R k)) es) ≡ Some v
          → (lookup (is_at (R k)) es ≡ Some v
          → set_value (is_at (R k)) es w ≡ insert_entry R es k w)
          → cond (is_eq r) ((e.0, w) ∷ es) (e ∷ set_value (is_at (R k)) es w)
          ≡ match_ordering r ((k, w) ∷ e ∷ es) ((e.0, w) ∷ es) (e ∷ insert_entry R es k w)
      by Less less is more = let none : lookup (is_at (R k)) (e ∷ es) ≡ None =
          below e es sorted less in let nothing = rw less at none in cc
      by Equal equal is more = refl
      by Greater above is more = ap (λ (rest : List (K × X)). e ∷ rest) (more is)
