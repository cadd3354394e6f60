-- Places that are there once, and places apart from others.
use Rattle.std.proofs.Common.{ℕ, List, [], ◌∷◌, ◌++◌, sym}
use Rattle.std.specs.Prelude.{◌≢◌}
use Rattle.std.specs.List.{AllByRecursion}
use Rattle.place_order.specs.Orders.{AreDistinct, IsApart}

module _ {X : Type 0} (P : X → Type 0) where
  pub all_left : (xs ys : List X) → AllByRecursion P (xs ++ ys) → AllByRecursion P xs
  all_left [] ys all = tt
  all_left (x ∷ xs) ys all = (all.0, all_left xs ys all.1)

  pub all_right : (xs ys : List X) → AllByRecursion P (xs ++ ys) → AllByRecursion P ys
  all_right [] ys all = all
  all_right (x ∷ xs) ys all = all_right xs ys all.1

  pub all_both : (xs ys : List X) → AllByRecursion P xs → AllByRecursion P ys
      → AllByRecursion P (xs ++ ys)
  all_both [] ys all more = more
  all_both (x ∷ xs) ys all more = (all.0, all_both xs ys all.1 more)

  pub all_weaker : (Q : X → Type 0) → ((x : X) → P x → Q x) → (xs : List X)
      → AllByRecursion P xs → AllByRecursion Q xs
  all_weaker Q f [] all = tt
  all_weaker Q f (x ∷ xs) all = (f x all.0, all_weaker Q f xs all.1)

-- each of one list is apart from another one
abbrev pub AreApart : List ℕ → List ℕ → Type 0
AreApart xs ys = AllByRecursion (λ x. IsApart x ys) xs

-- apart from a list
module _ (q : ℕ) where
  pub apart_left : (xs ys : List ℕ) → IsApart q (xs ++ ys) → IsApart q xs
  apart_left xs ys all = all_left (λ x. q ≢ x) xs ys all

  pub apart_right : (xs ys : List ℕ) → IsApart q (xs ++ ys) → IsApart q ys
  apart_right xs ys all = all_right (λ x. q ≢ x) xs ys all

  pub apart_both : (xs ys : List ℕ) → IsApart q xs → IsApart q ys → IsApart q (xs ++ ys)
  apart_both xs ys all more = all_both (λ x. q ≢ x) xs ys all more

pub distinct_left : (xs ys : List ℕ) → AreDistinct (xs ++ ys) → AreDistinct xs
distinct_left [] ys d = tt
distinct_left (x ∷ xs) ys d = (apart_left x xs ys d.0, distinct_left xs ys d.1)

pub distinct_right : (xs ys : List ℕ) → AreDistinct (xs ++ ys) → AreDistinct ys
distinct_right [] ys d = d
distinct_right (x ∷ xs) ys d = distinct_right xs ys d.1

pub distinct_apart : (xs ys : List ℕ) → AreDistinct (xs ++ ys) → AreApart xs ys
distinct_apart [] ys d = tt
distinct_apart (x ∷ xs) ys d = (apart_right x xs ys d.0, distinct_apart xs ys d.1)

-- what each of a list is apart from, is apart from the list
pub apart_from : (q : ℕ) (xs ys zs : List ℕ) → AreApart xs (ys ++ q ∷ zs) → IsApart q xs
apart_from q xs ys zs all =
    all_weaker (λ x. IsApart x (ys ++ q ∷ zs)) (λ x. q ≢ x)
    (λ x apart e. (apart_right x ys (q ∷ zs) apart).0 (sym e)) xs all

-- a place among others is apart from them
pub record IsBetween (before : List ℕ) (at : ℕ) (after : List ℕ) : Type 0 where
  pub left : IsApart at before
  pub right : IsApart at after

pub between : (xs : List ℕ) (at : ℕ) (ys : List ℕ) → AreDistinct (xs ++ at ∷ ys)
    → IsBetween xs at ys
between xs at ys d = record {
  left = apart_from at xs [] ys (distinct_apart xs (at ∷ ys) d);
  right = (distinct_right xs (at ∷ ys) d).0;
}

-- lists that are apart are so both ways
pub apart_flip : (xs ys : List ℕ) → AreApart xs ys → AreApart ys xs
apart_flip xs [] all = tt
apart_flip xs (y ∷ ys) all = (
  apart_from y xs [] ys all,
  apart_flip xs ys
      (all_weaker (λ x. IsApart x (y ∷ ys)) (λ x. IsApart x ys) (λ x h. h.1) xs all),
)
