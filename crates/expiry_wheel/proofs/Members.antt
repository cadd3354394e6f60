-- What is among a list in order, as one item comes or goes.
use Rattle.std.proofs.Common.{◌≡◌, ℕ, Bool, true, false, cond, not, ◌&&◌, ◌||◌, ◌==◌, List, [], ◌∷◌}
use Rattle.std.proofs.Common.{refl, sym, ap, ◌∙◌}
use Rattle.std.proofs.Math.Bool.{or_self_left}
use Rattle.std.proofs.lemmas.Cmp.{eq_by_cmp_equiv, nat_list_cmp_total}
use Rattle.std.proofs.lemmas.Map.Lookups.{exact_bytes, exact_pairs, exact_unsigned}
use Rattle.std.specs.BTreeMap.{is_at}
use Rattle.std.specs.BTreeSet.{insert_key}
use Rattle.std.specs.Cmp.{IsTotalOrder, unsigned_ties}
use Rattle.std.specs.Cmp.Lexicographic.{slice_cmp}
use Rattle.std.specs.List.{AllByRecursion, list_any}
use Rattle.std.specs.List.Sorted.{IsStrictlySortedBy}
use Rattle.std.specs.Ordering.{is_eq, match_ordering, nat_cmp, ordering_then}
use Rattle.std.specs.Set.{remove_key}
use Rattle.std.specs.declared.cmp.Ordering.{Ordering}
use Rattle.std.specs.declared.cmp.Ordering.TheVariants.{Less, Equal, Greater}
use Rattle.expiry_wheel.specs.Entries.{entry_cmp}

pub equal_from : (r : Ordering) → is_eq r ≡ true → r ≡ Equal
equal_from Less e = cc
equal_from Equal e = refl
equal_from Greater e = cc

swapped : (a b c : Bool) → (a || (b || c)) ≡ (b || (a || c))
swapped true true c = refl
swapped true false c = refl
swapped false b c = refl

gone_here : (s a : Bool) → (s ≡ true → a ≡ false) → a ≡ ((s || a) && not s)
gone_here true a h = h refl
gone_here false true h = refl
gone_here false false h = refl

gone_later : (s a t : Bool) → (s ≡ true → t ≡ false) → (s || (a && not t)) ≡ ((s || a) && not t)
gone_later true a true h = h refl
gone_later true a false h = refl
gone_later false a t h = refl

module _ {K : Type 0} (R : K → K → Ordering) (o : IsTotalOrder R) (exact : (x y : K) → R x y ≡ Equal
    → x ≡ y) where
  pub any-insert_key : (q k : K) (xs : List K) → list_any (is_at (R q)) (insert_key R xs k)
      ≡ (is_eq (R q k) || list_any (is_at (R q)) xs)
  any-insert_key q k [] = refl
  any-insert_key q k (x ∷ xs) = by (R k x) refl (any-insert_key q k xs)
    where
      by : (r : Ordering) → R k x ≡ r → list_any (is_at (R q)) (insert_key R xs k)
          ≡ (is_eq (R q k) || list_any (is_at (R q)) xs)
          → list_any (is_at (R q)) (match_ordering r (k ∷ x ∷ xs) (x ∷ xs) (x ∷ insert_key R xs k))
          ≡ (is_eq (R q k) || (is_eq (R q x) || list_any (is_at (R q)) xs))
      by Less e rest = refl
      by Equal e rest = sym (or_self_left (is_eq (R q x)) (list_any (is_at (R q)) xs))
          ∙ ap (λ y. is_eq (R q y) || (is_eq (R q x) || list_any (is_at (R q)) xs))
          (sym (exact k x e))
      by Greater e rest = ap (λ b. is_eq (R q x) || b) rest
          ∙ swapped (is_eq (R q x)) (is_eq (R q k)) (list_any (is_at (R q)) xs)

  none_any : (x : K) (xs : List K) → AllByRecursion (λ y. R x y ≡ Less) xs
      → list_any (is_at (R x)) xs ≡ false
  none_any x [] h = refl
  none_any x (y ∷ ys) h = rw h.0 (none_any x ys h.1)

  pub any-remove_key : (q k : K) (xs : List K) → IsStrictlySortedBy R xs
      → list_any (is_at (R q)) (remove_key (is_at (R k)) xs)
      ≡ (list_any (is_at (R q)) xs && not (is_eq (R q k)))
  unfolding IsStrictlySortedBy
  any-remove_key q k [] h = refl
  any-remove_key q k (x ∷ xs) h = by (is_eq (R k x)) refl (any-remove_key q k xs h.1)
    where
      by : (b : Bool) → is_eq (R k x) ≡ b → list_any (is_at (R q)) (remove_key (is_at (R k)) xs)
          ≡ (list_any (is_at (R q)) xs && not (is_eq (R q k)))
          → list_any (is_at (R q)) (cond b xs (x ∷ remove_key (is_at (R k)) xs))
          ≡ ((is_eq (R q x) || list_any (is_at (R q)) xs) && not (is_eq (R q k)))
      by true same rest =
          gone_here (is_eq (R q x)) (list_any (is_at (R q)) xs)
          (λ e. ap (λ y. list_any (is_at (R y)) xs) (exact q x (equal_from _ e))
          ∙ none_any x xs h.0)
          ∙ ap (λ y. (is_eq (R q x) || list_any (is_at (R q)) xs) && not (is_eq (R q y)))
          (sym (exact k x (equal_from _ same)))
      by false other rest =
          ap (λ b. is_eq (R q x) || b) rest
          ∙ gone_later (is_eq (R q x)) (list_any (is_at (R q)) xs) (is_eq (R q k))
          (λ e. ap (λ y. is_eq (R y k)) (exact q x (equal_from _ e))
          ∙ (eq_by_cmp_equiv o).symm x k ∙ other)

-- ---- entries of keys
pub exact_entry : (a b : ℕ × List ℕ) → entry_cmp (slice_cmp nat_cmp) a b ≡ Equal → a ≡ b
exact_entry = exact_pairs nat_cmp (slice_cmp nat_cmp) exact_unsigned exact_bytes

tied_parts : (a b : Ordering) → is_eq (ordering_then a b) ≡ (is_eq a && is_eq b)
tied_parts Less b = refl
tied_parts Equal b = refl
tied_parts Greater b = refl

pub tells : (e : ℕ × List ℕ) (at : ℕ) (key : List ℕ)
    → is_eq (entry_cmp (slice_cmp nat_cmp) e (at, key))
    ≡ ((e.0 == at) && is_at (slice_cmp nat_cmp key) e.1)
tells e at key =
    tied_parts (nat_cmp e.0 at) (slice_cmp nat_cmp e.1 key)
    ∙ ap (λ b. b && is_eq (slice_cmp nat_cmp e.1 key)) (sym (unsigned_ties e.0 at))
    ∙ ap (λ b. (e.0 == at) && b) ((eq_by_cmp_equiv nat_list_cmp_total).symm e.1 key)
