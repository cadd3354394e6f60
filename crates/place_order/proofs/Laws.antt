-- What callers need of places in order.
use Rattle.std.proofs.Common.{◌≡◌, ℕ, Bool, true, false, List, [], ◌∷◌, ◌++◌, eqb, refl, ap, sym}
use Rattle.std.proofs.Common.{subst, ◌∙◌}
use Rattle.std.specs.Prelude.{◌≢◌, ◌||◌, map}
use Rattle.std.specs.declared.cmp.Ordering.TheVariants.{Less}
use Rattle.std.specs.Cmp.Lexicographic.{slice_cmp}
use Rattle.std.specs.Ordering.{nat_cmp}
use Rattle.std.specs.List.{AllByRecursion, list_any}
use Rattle.std.specs.List.Sorted.{IsStrictlySortedBy}
use borrow.Author.Tests.{eq-eqb, eqb-true, ne_eqb}
use Rattle.place_order.specs.Orders.{AreByRank, IsApart, IsInserted, by_rank, without}
use Rattle.place_order.proofs.Apart.{all_both, all_left, all_right}
use Rattle.place_order.proofs.Ranked.{all_without as every_without}

-- ---- ranks
pub by_rank_none : (rank : ℕ → List ℕ) → AreByRank rank []
unfolding IsStrictlySortedBy
by_rank_none rank = tt

module _ (rank : ℕ → List ℕ) where
  above_to_map : (place : ℕ) (places : List ℕ)
      → AllByRecursion (λ p. by_rank rank place p ≡ Less) places
      → AllByRecursion (λ r. slice_cmp nat_cmp (rank place) r ≡ Less) (map rank places)
  above_to_map place [] all = tt
  above_to_map place (p ∷ places) all = (all.0, above_to_map place places all.1)

  -- the list of the ranks of places that are by rank is sorted
  pub by_rank_to_map : (places : List ℕ) → AreByRank rank places
      → IsStrictlySortedBy (slice_cmp nat_cmp) (map rank places)
  unfolding IsStrictlySortedBy
  by_rank_to_map [] sorted = tt
  by_rank_to_map (place ∷ places) sorted =
      (above_to_map place places sorted.0, by_rank_to_map places sorted.1)

  -- ranks that are the same for the places leave them in order
  module _ (now : ℕ → List ℕ) where
    above_kept : (place : ℕ) (places : List ℕ) → now place ≡ rank place
        → AllByRecursion (λ p. now p ≡ rank p) places
        → AllByRecursion (λ p. by_rank rank place p ≡ Less) places
        → AllByRecursion (λ p. by_rank now place p ≡ Less) places
    above_kept place [] here same all = tt
    above_kept place (p ∷ places) here same all = (
      (λ i. slice_cmp nat_cmp (here i) (same.0 i)) ∙ all.0,
      above_kept place places here same.1 all.1,
    )

    pub by_rank_kept : (places : List ℕ) → AllByRecursion (λ p. now p ≡ rank p) places
        → AreByRank rank places → AreByRank now places
    unfolding IsStrictlySortedBy
    by_rank_kept [] same sorted = tt
    by_rank_kept (place ∷ places) same sorted = (
      above_kept place places same.0 same.1 sorted.0,
      by_rank_kept places same.1 sorted.1,
    )

-- ---- a place more
module _ (P : ℕ → Type 0) (at : ℕ) (old new : List ℕ) (inserted : IsInserted at old new) where
  pub all_inserted : P at → AllByRecursion P old → AllByRecursion P new
  all_inserted own all =
      let parted : AllByRecursion P (inserted.before ++ inserted.after) =
      subst (AllByRecursion P) inserted.was all in
      subst (AllByRecursion P) (sym inserted.is)
      (all_both P inserted.before (at ∷ inserted.after)
      (all_left P inserted.before inserted.after parted)
      (own, all_right P inserted.before inserted.after parted))

member-append : (q : ℕ) (xs ys : List ℕ)
    → list_any (eqb q) (xs ++ ys) ≡ list_any (eqb q) xs || list_any (eqb q) ys
member-append q [] ys = refl
member-append q (x ∷ xs) ys = by (member-append q xs ys) (eqb q x)
  where
    by : list_any (eqb q) (xs ++ ys) ≡ list_any (eqb q) xs || list_any (eqb q) ys → (b : Bool)
        → b || list_any (eqb q) (xs ++ ys) ≡ (b || list_any (eqb q) xs) || list_any (eqb q) ys
    by more true = refl
    by more false = more

-- it is among them now, and so are the others
pub member_inserted : (q at : ℕ) (old new : List ℕ) → IsInserted at old new
    → list_any (eqb q) new ≡ eqb q at || list_any (eqb q) old
member_inserted q at old new inserted =
    ap (list_any (eqb q)) inserted.is
    ∙ member-append q inserted.before (at ∷ inserted.after)
    ∙ by (list_any (eqb q) inserted.before) (eqb q at) (list_any (eqb q) inserted.after)
    ∙ ap (λ b. eqb q at || b) (sym (ap (list_any (eqb q)) inserted.was
    ∙ member-append q inserted.before inserted.after))
  where
    by : (a b c : Bool) → a || (b || c) ≡ b || (a || c)
    by true true c = refl
    by true false c = refl
    by false true c = refl
    by false false c = refl

-- ---- a place less
pub all_without : (P : ℕ → Type 0) (at : ℕ) (places : List ℕ) → AllByRecursion P places
    → AllByRecursion P (without at places)
all_without P at places all = every_without P at places all

pub apart_without : (at : ℕ) (places : List ℕ) → IsApart at (without at places)
apart_without at [] = tt
apart_without at (place ∷ places) = by (apart_without at places) (eqb place at) refl
  where
    by : IsApart at (without at places) → (b : Bool) → eqb place at ≡ b
        → IsApart at (without at (place ∷ places))
    by more true here = rw here more
    by more false other =
        rw other ((λ e. wrong (sym other ∙ eq-eqb place at (sym e))), more)
      where
        wrong : false ≢ true
        wrong e = cc

-- the other places are among them as before
pub member_without : (q at : ℕ) (places : List ℕ) → q ≢ at
    → list_any (eqb q) (without at places) ≡ list_any (eqb q) places
member_without q at [] other = refl
member_without q at (place ∷ places) other =
    by (member_without q at places other) (eqb place at) refl
  where
    by : list_any (eqb q) (without at places) ≡ list_any (eqb q) places → (b : Bool)
        → eqb place at ≡ b
        → list_any (eqb q) (without at (place ∷ places)) ≡ eqb q place || list_any (eqb q) places
    by more true here =
        let same : place ≡ at = eqb-true place at here in
        let not_it : eqb q place ≡ false = ne_eqb q place (λ e. other (e ∙ same)) in
        rw (here, not_it) more
    by more false apart = rw apart (ap (λ b. eqb q place || b) more)
