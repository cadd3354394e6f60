-- Places in order, and one more or less of them.
use Rattle.std.proofs.Common.{◌≡◌, ℕ, Bool, true, false, cond, List, [], ◌∷◌, ◌++◌, refl, ◌∙◌, ap}
use Rattle.std.proofs.Common.{sym, subst}
use Rattle.std.specs.Prelude.{◌≢◌, ◌==◌, not}
use Rattle.std.specs.declared.cmp.Ordering.{Ordering}
use Rattle.std.specs.declared.cmp.Ordering.TheVariants.{Less, Equal, Greater}
use Rattle.std.specs.Ordering.{is_gt, is_lt, ordering_reverse}
use Rattle.std.specs.Cmp.{IsTotalOrder, on_total}
use Rattle.std.specs.Cmp.Lexicographic.{nat_list_cmp_total}
use Rattle.std.specs.List.{AllByRecursion}
use Rattle.std.specs.List.Sorted.{IsStrictlySortedBy}
use borrow.Author.Tests.{eq-eqb, ne_eqb}
use Rattle.place_order.specs.Orders.{AreDistinct, IsApart, by_rank, placed, without}
use Rattle.place_order.proofs.Apart.{all_left, all_right, all_weaker, between}

-- ranks are a total order
pub ranks_total : (rank : ℕ → List ℕ) → IsTotalOrder (by_rank rank)
ranks_total rank = on_total rank nat_list_cmp_total

-- ---- without a place
pub without-append : (at : ℕ) (xs ys : List ℕ)
    → without at (xs ++ ys) ≡ without at xs ++ without at ys
without-append at [] ys = refl
without-append at (x ∷ xs) ys = by (without-append at xs ys) (not (x == at))
  where
    by : without at (xs ++ ys) ≡ without at xs ++ without at ys → (b : Bool)
        → cond b (x ∷ without at (xs ++ ys)) (without at (xs ++ ys))
        ≡ cond b (x ∷ without at xs) (without at xs) ++ without at ys
    by more true = ap (λ zs. x ∷ zs) more
    by more false = more

pub without_none : (at : ℕ) (xs : List ℕ) → IsApart at xs → without at xs ≡ xs
without_none at [] apart = refl
without_none at (x ∷ xs) apart =
    rw (ne_eqb x at (λ e. apart.0 (sym e)))
    (ap (λ zs. x ∷ zs) (without_none at xs apart.1))

pub without_here : (at : ℕ) (xs : List ℕ) → without at (at ∷ xs) ≡ without at xs
without_here at xs = rw (eq-eqb at at refl) refl

pub without_other : (at x : ℕ) (xs : List ℕ) → x ≢ at → without at (x ∷ xs) ≡ x ∷ without at xs
without_other at x xs other = rw (ne_eqb x at other) refl

-- a place that is there once goes from between the others
pub without_between : (at : ℕ) (xs ys : List ℕ) → AreDistinct (xs ++ at ∷ ys)
    → without at (xs ++ at ∷ ys) ≡ xs ++ ys
without_between at xs ys d =
    let b = between xs at ys d in
    without-append at xs (at ∷ ys)
    ∙ ap (λ zs. zs ++ without at (at ∷ ys)) (without_none at xs b.left)
    ∙ ap (λ zs. xs ++ zs) (without_here at ys ∙ without_none at ys b.right)

pub all_without : (P : ℕ → Type 0) (at : ℕ) (xs : List ℕ) → AllByRecursion P xs
    → AllByRecursion P (without at xs)
all_without P at [] all = tt
all_without P at (x ∷ xs) all = by (all_without P at xs all.1) (not (x == at))
  where
    by : AllByRecursion P (without at xs) → (b : Bool)
        → AllByRecursion P (cond b (x ∷ without at xs) (without at xs))
    by more true = (all.0, more)
    by more false = more

-- what is apart from places is apart from those without one
pub apart_without : (q at : ℕ) (xs : List ℕ) → IsApart q xs → IsApart q (without at xs)
apart_without q at xs apart = all_without (λ x. q ≢ x) at xs apart

pub distinct_without : (at : ℕ) (xs : List ℕ) → AreDistinct xs → AreDistinct (without at xs)
distinct_without at [] d = tt
distinct_without at (x ∷ xs) d = by (distinct_without at xs d.1) (not (x == at))
  where
    by : AreDistinct (without at xs) → (b : Bool)
        → AreDistinct (cond b (x ∷ without at xs) (without at xs))
    by more true = (apart_without x at xs d.0, more)
    by more false = more

module _ (C : ℕ → ℕ → Ordering) where
  abbrev pub IsInOrder : List ℕ → Type 0
  IsInOrder xs = IsStrictlySortedBy C xs

  pub sorted_left : (xs ys : List ℕ) → IsInOrder (xs ++ ys) → IsInOrder xs
  unfolding IsStrictlySortedBy
  sorted_left [] ys s = tt
  sorted_left (x ∷ xs) ys s = (all_left (λ y. C x y ≡ Less) xs ys s.0, sorted_left xs ys s.1)

  pub sorted_right : (xs ys : List ℕ) → IsInOrder (xs ++ ys) → IsInOrder ys
  unfolding IsStrictlySortedBy
  sorted_right [] ys s = s
  sorted_right (x ∷ xs) ys s = sorted_right xs ys s.1

  pub sorted_behind : (y : ℕ) (ys : List ℕ) → IsInOrder (y ∷ ys) → IsInOrder ys
  unfolding IsStrictlySortedBy
  sorted_behind y ys s = s.1

  -- a place is below those after it
  pub all_above : (xs : List ℕ) (y : ℕ) (ys : List ℕ) → IsInOrder (xs ++ y ∷ ys)
      → AllByRecursion (λ z. C y z ≡ Less) ys
  unfolding IsStrictlySortedBy
  all_above [] y ys s = s.0
  all_above (x ∷ xs) y ys s = all_above xs y ys s.1

  -- and above those before it
  pub all_below : (xs : List ℕ) (y : ℕ) (ys : List ℕ) → IsInOrder (xs ++ y ∷ ys)
      → AllByRecursion (λ x. C x y ≡ Less) xs
  unfolding IsStrictlySortedBy
  all_below [] y ys s = tt
  all_below (x ∷ xs) y ys s =
      ((all_right (λ z. C x z ≡ Less) xs (y ∷ ys) s.0).0, all_below xs y ys s.1)

  pub sorted_without : (at : ℕ) (xs : List ℕ) → IsInOrder xs → IsInOrder (without at xs)
  unfolding IsStrictlySortedBy
  sorted_without at [] s = tt
  sorted_without at (x ∷ xs) s = by (sorted_without at xs s.1) (not (x == at))
    where
      by : IsInOrder (without at xs) → (b : Bool)
          → IsInOrder (cond b (x ∷ without at xs) (without at xs))
      by more true = (all_without (λ z. C x z ≡ Less) at xs s.0, more)
      by more false = more

  module _ (o : IsTotalOrder C) where
    less_turned : (x y : ℕ) → C x y ≡ Less → C y x ≡ Greater
    less_turned x y e = o.antisymm y x ∙ ap ordering_reverse e

    greater_turned : (x y : ℕ) → C x y ≡ Greater → C y x ≡ Less
    greater_turned x y e = o.antisymm y x ∙ ap ordering_reverse e

    pub not_itself : (x y : ℕ) → C x y ≡ Less → x ≢ y
    not_itself x y less e =
        let here : C x x ≡ Less = subst (λ z. C x z ≡ Less) (sym e) less in
        let back : C x x ≡ Greater = less_turned x x here in
        let wrong : Less ≡ Greater = sym here ∙ back in
        cc

    -- a place has its own rank
    pub ranks_alike : (x : ℕ) → C x x ≡ Equal
    ranks_alike x = by (C x x) (o.antisymm x x)
      where
        by : (r : Ordering) → r ≡ ordering_reverse r → r ≡ Equal
        by Less e = cc
        by Equal e = refl
        by Greater e = cc

    -- no place is there twice
    pub sorted_distinct : (xs : List ℕ) → IsInOrder xs → AreDistinct xs
    unfolding IsStrictlySortedBy
    sorted_distinct [] s = tt
    sorted_distinct (x ∷ xs) s = (
      all_weaker (λ y. C x y ≡ Less) (λ y. x ≢ y) (λ y less. not_itself x y less) xs s.0,
      sorted_distinct xs s.1,
    )

    -- ---- one place more
    module _ (at : ℕ) where
      -- before a place that it is below
      pub placed_left : (xs : List ℕ) (y : ℕ) (ys : List ℕ) → C at y ≡ Less
          → placed C at (xs ++ y ∷ ys) ≡ placed C at xs ++ y ∷ ys
      placed_left [] y ys less = rw less refl
      placed_left (x ∷ xs) y ys less = by (placed_left xs y ys less) (is_lt (C at x))
        where
          by : placed C at (xs ++ y ∷ ys) ≡ placed C at xs ++ y ∷ ys → (b : Bool)
              → cond b (at ∷ x ∷ (xs ++ y ∷ ys)) (x ∷ placed C at (xs ++ y ∷ ys))
              ≡ cond b (at ∷ x ∷ xs) (x ∷ placed C at xs) ++ y ∷ ys
          by more true = refl
          by more false = ap (λ zs. x ∷ zs) more

      -- behind places that it isn't below
      pub placed_right : (xs ys : List ℕ)
          → AllByRecursion (λ x. is_lt (C at x) ≡ false) xs
          → placed C at (xs ++ ys) ≡ xs ++ placed C at ys
      placed_right [] ys all = refl
      placed_right (x ∷ xs) ys all =
          rw all.0 (ap (λ zs. x ∷ zs) (placed_right xs ys all.1))

      pub only_less : (r : Ordering) → r ≢ Greater → r ≢ Equal → r ≡ Less
      only_less Less never other = refl
      only_less Equal never other = absurd (other refl)
      only_less Greater never other = absurd (never refl)

      pub above_not_less : (x : ℕ) → C at x ≡ Greater → C at x ≢ Less
      above_not_less x above less = let wrong : Less ≡ Greater = sym less ∙ above in cc

      not_less : (r : Ordering) → r ≢ Less → is_lt r ≡ false
      not_less Less never = absurd (never refl)
      not_less Equal never = refl
      not_less Greater never = refl

      -- what isn't below a place, isn't below those before it
      pub none_less : (xs : List ℕ) (y : ℕ) (ys : List ℕ) → IsInOrder (xs ++ y ∷ ys)
          → C at y ≢ Less → AllByRecursion (λ x. is_lt (C at x) ≡ false) xs
      none_less xs y ys s never =
          all_weaker (λ x. C x y ≡ Less) (λ x. is_lt (C at x) ≡ false)
          (λ x below. not_less (C at x) (λ less. never (o.trans at x y less below))) xs
          (all_below xs y ys s)

      pub placed_behind : (xs : List ℕ) (y : ℕ) (ys : List ℕ) → IsInOrder (xs ++ y ∷ ys)
          → C at y ≢ Less → placed C at (xs ++ y ∷ ys) ≡ xs ++ y ∷ placed C at ys
      placed_behind xs y ys s never =
          placed_right xs (y ∷ ys) (none_less xs y ys s never)
          ∙ ap (λ zs. xs ++ zs) (placed_right (y ∷ []) ys (not_less (C at y) never, tt))

      -- between places that it is above and others that it isn't above
      pub placed_between : (xs ys : List ℕ) → AllByRecursion (λ x. is_gt (C at x) ≡ true) xs
          → AllByRecursion (λ x. is_gt (C at x) ≡ false) ys
          → AllByRecursion (λ x. C at x ≢ Equal) ys → placed C at (xs ++ ys) ≡ xs ++ at ∷ ys
      placed_between [] [] above from own = refl
      placed_between [] (y ∷ ys) above from own = by (C at y) from.0 own.0
        where
          by : (r : Ordering) → is_gt r ≡ false → r ≢ Equal
              → cond (is_lt r) (at ∷ y ∷ ys) (y ∷ placed C at ys) ≡ at ∷ y ∷ ys
          by Less is never = refl
          by Equal is never = absurd (never refl)
          by Greater is never = cc
      placed_between (x ∷ xs) ys above from own =
          by (placed_between xs ys above.1 from own) (C at x) above.0
        where
          by : placed C at (xs ++ ys) ≡ xs ++ at ∷ ys → (r : Ordering) → is_gt r ≡ true
              → cond (is_lt r) (at ∷ x ∷ (xs ++ ys)) (x ∷ placed C at (xs ++ ys))
              ≡ x ∷ (xs ++ at ∷ ys)
          by more Less is = cc
          by more Equal is = cc
          by more Greater is = ap (λ zs. x ∷ zs) more

      pub all_placed : (P : ℕ → Type 0) (xs : List ℕ) → P at → AllByRecursion P xs
          → AllByRecursion P (placed C at xs)
      all_placed P [] own all = (own, tt)
      all_placed P (x ∷ xs) own all = by (all_placed P xs own all.1) (is_lt (C at x))
        where
          by : AllByRecursion P (placed C at xs) → (b : Bool)
              → AllByRecursion P (cond b (at ∷ x ∷ xs) (x ∷ placed C at xs))
          by more true = (own, all)
          by more false = (all.0, more)

      above_more : (x : ℕ) (xs : List ℕ) → C at x ≡ Less → AllByRecursion (λ y. C x y ≡ Less) xs
          → AllByRecursion (λ y. C at y ≡ Less) xs
      above_more x xs less all =
          all_weaker (λ y. C x y ≡ Less) (λ y. C at y ≡ Less)
          (λ y above. o.trans at x y less above) xs all

      -- a place with a rank of its own keeps the order
      pub placed_sorted : (xs : List ℕ) → IsInOrder xs
          → AllByRecursion (λ x. C at x ≢ Equal) xs → IsInOrder (placed C at xs)
      unfolding IsStrictlySortedBy
      placed_sorted [] s own = (tt, tt)
      placed_sorted (x ∷ xs) s own = by (placed_sorted xs s.1 own.1) (C at x) refl
        where
          by : IsInOrder (placed C at xs) → (r : Ordering) → C at x ≡ r
              → IsInOrder (cond (is_lt r) (at ∷ x ∷ xs) (x ∷ placed C at xs))
          by more Less is = ((is, above_more x xs is s.0), s)
          by more Equal is = absurd (own.0 is)
          by more Greater is =
              (all_placed (λ y. C x y ≡ Less) xs (greater_turned at x is) s.0, more)

      -- ---- those below a place, and the others
      pub greater_before : (xs : List ℕ) (y : ℕ) (ys : List ℕ) → IsInOrder (xs ++ y ∷ ys)
          → C at y ≡ Greater → AllByRecursion (λ x. is_gt (C at x) ≡ true) xs
      greater_before xs y ys s above =
          all_weaker (λ x. C x y ≡ Less) (λ x. is_gt (C at x) ≡ true)
          (λ x below. ap is_gt (less_turned x at
          (o.trans x y at below (greater_turned at y above)))) xs (all_below xs y ys s)

      pub not_greater : (r : Ordering) → r ≢ Greater → is_gt r ≡ false
      not_greater Less never = refl
      not_greater Equal never = refl
      not_greater Greater never = absurd (never refl)

      pub not_greater_from : (y : ℕ) (ys : List ℕ) → AllByRecursion (λ z. C y z ≡ Less) ys
          → C at y ≢ Greater → AllByRecursion (λ x. is_gt (C at x) ≡ false) (y ∷ ys)
      not_greater_from y ys all never = (
        not_greater (C at y) never,
        all_weaker (λ z. C y z ≡ Less) (λ x. is_gt (C at x) ≡ false)
            (λ z above. not_greater (C at z) (λ more. never (less_turned y at
            (o.trans y z at above (greater_turned at z more))))) ys all,
      )

      -- what comes before it is below it, and neither it nor what comes behind is
      pub greater_before_it : (xs : List ℕ) (y : ℕ) (ys : List ℕ) → IsInOrder (xs ++ y ∷ ys)
          → y ≡ at → AllByRecursion (λ x. is_gt (C at x) ≡ true) xs
      greater_before_it xs y ys s here =
          all_weaker (λ x. C x y ≡ Less) (λ x. is_gt (C at x) ≡ true)
          (λ x below. ap is_gt (subst (λ z. C z x ≡ Greater) here (less_turned x y below))) xs
          (all_below xs y ys s)

      pub not_above_it : (y : ℕ) → y ≡ at → C at y ≢ Greater
      not_above_it y here above =
          let same : C at y ≡ Equal = subst (λ z. C at z ≡ Equal) (sym here) (ranks_alike at) in
          let wrong : Equal ≡ Greater = sym same ∙ above in cc

      -- ---- where it isn't
      pub apart_below : (xs : List ℕ) (y : ℕ) (ys : List ℕ) → IsInOrder (xs ++ y ∷ ys)
          → C at y ≢ Less → IsApart at xs
      apart_below xs y ys s never =
          all_weaker (λ x. C x y ≡ Less) (λ x. at ≢ x)
          (λ x below e. never (subst (λ z. C z y ≡ Less) (sym e) below)) xs (all_below xs y ys s)

      -- a place of a rank that no other has isn't among them
      pub apart_own : (xs : List ℕ) → AllByRecursion (λ x. C at x ≢ Equal) xs → IsApart at xs
      apart_own xs own =
          all_weaker (λ x. C at x ≢ Equal) (λ x. at ≢ x)
          (λ x other e. other (subst (λ z. C at z ≡ Equal) e (ranks_alike at))) xs own

      -- a place isn't among those that it is above
      pub apart_passing : (xs : List ℕ) → AllByRecursion (λ x. is_gt (C at x) ≡ true) xs
          → IsApart at xs
      apart_passing xs passes =
          all_weaker (λ x. is_gt (C at x) ≡ true) (λ x. at ≢ x) not_it xs passes
        where
          not_it : (x : ℕ) → is_gt (C at x) ≡ true → at ≢ x
          not_it x above e =
              let same : C at x ≡ Equal = subst (λ z. C at z ≡ Equal) e (ranks_alike at) in
              let wrong : false ≡ true = sym (ap is_gt same) ∙ above in cc

      -- and it isn't behind one that it isn't above
      pub apart_behind : (y : ℕ) (ys : List ℕ) → AllByRecursion (λ z. C y z ≡ Less) ys
          → is_gt (C at y) ≡ false → IsApart at ys
      apart_behind y ys all fails =
          all_weaker (λ z. C y z ≡ Less) (λ z. at ≢ z) not_it ys all
        where
          not_it : (z : ℕ) → C y z ≡ Less → at ≢ z
          not_it z above e =
              let back : C at y ≡ Greater = subst (λ x. C x y ≡ Greater) (sym e)
              (less_turned y z above) in
              let wrong : true ≡ false = sym (ap is_gt back) ∙ fails in cc
