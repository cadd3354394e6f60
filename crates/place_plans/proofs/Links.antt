-- Links as a plan comes, goes or moves.
use Rattle.std.proofs.Common.{◌≡◌, ◌≢◌, ℕ, zero, suc, ◌+◌, ◌-◌, ◌<◌, ◌≤◌, List, [], ◌∷◌, ◌++◌}
use Rattle.std.proofs.Common.{length, Option, Some, None, refl, ap, sym, ◌∙◌, arith, cond}
use Rattle.std.proofs.Common.{slice_get, inl, inr, replicate, eq-eqb, false}
use Rattle.std.proofs.Math.Seq.{map-set_same}
use Rattle.std.proofs.lemmas.Bool.{cases_eq, cases_lt, ne_eqb, lt-leb}
use Rattle.std.proofs.lemmas.List.{get_or-set_same, get_or-set_other, get_or_past, map-set}
use Rattle.std.proofs.lemmas.List.{length-set, length-map, length-append, length-replicate}
use Rattle.std.proofs.lemmas.List.{map-append, append-nil}
use Rattle.std.proofs.lemmas.Option.{none-some}
use Rattle.std.specs.List.{swap_remove}
use Rattle.std.specs.Option.{option_map}
use Rattle.std.specs.Prelude.{slice_set, slice_index_or, map, nat_eq}
use Rattle.place_plans.specs.Links.{AreLinked, link_in, mended, moments_of}
use Rattle.place_plans.specs.Plans.{padded, plan_at, planned, is_due}
use Rattle.place_plans.proofs.Linked.{linked_left, linked_more, moved_other, moved_apart}

abbrev Link : Type 0
Link = ℕ × ℕ

abbrev moment : Option Link → Option ℕ
moment link = option_map (λ l. l.0) link

pub plan_of_link : (links : List (Option Link)) (q : ℕ)
    → plan_at (moments_of links) q ≡ moment (link_in links q)
plan_of_link [] zero = refl
plan_of_link [] (suc q) = refl
plan_of_link (link ∷ links) zero = refl
plan_of_link (link ∷ links) (suc q) = plan_of_link links q

within_from_link : (links : List (Option Link)) (q : ℕ) (s : Link) → link_in links q ≡ Some s
    → q < length links
within_from_link links q s is = elim (cases_lt q (length links)) [
  | inl below ↦ below
  | inr past ↦ absurd (none-some s (sym (get_or_past links q None past) ∙ is))
]

pub link_unset : (links : List (Option Link)) (p : ℕ) → link_in (slice_set links p None) p ≡ None
link_unset links p = elim (cases_lt p (length links)) [
  | inl below ↦ get_or-set_same links p None None below
  | inr past ↦
      let m = length-set links p None in
      get_or_past (slice_set links p None) p None (omega arith)
]

mended_other : (links : List (Option Link)) (o : Option ℕ) (s : Link) (q : ℕ) → o ≢ Some q
    → link_in (mended links o s) q ≡ link_in links q
mended_other links None s q n = refl
mended_other links (Some r) s q n =
    get_or-set_other links r q (Some s) None (λ e. n (ap Some (sym e)))

moments_mended : (links : List (Option Link)) (o : Option ℕ) (s : Link) (n : ℕ)
    → ((q : ℕ) → o ≡ Some q → link_in links q ≡ Some (s.0, n))
    → moments_of (mended links o s) ≡ moments_of links
moments_mended links None s n h = refl
moments_mended links (Some q) s n h =
    map-set_same moment links q (Some s) None (sym (ap moment (h q refl)))

-- the links after a place has left its bucket
module _ (links : List (Option Link)) (places left : ℕ → List ℕ) (p : ℕ) (s : Link)
    (o : Option ℕ) (was : AreLinked (link_in links) places) (is : link_in links p ≡ Some s)
    (own : left s.0 ≡ swap_remove (places s.0) s.1 0)
    (others : (m : ℕ) → m ≢ s.0 → left m ≡ places m) (told : o ≡ slice_get (left s.0) s.1) where
  gets : (q : ℕ) → o ≡ Some q → slice_get (swap_remove (places s.0) s.1 0) s.1 ≡ Some q
  gets q e = sym (ap (λ xs. slice_get xs s.1) own) ∙ sym told ∙ e

  stood : (q : ℕ) → o ≡ Some q → link_in links q ≡ Some (s.0, length (places s.0) - 1)
  stood q e = moved_other p s q was is (gets q e)

  pub left_moments : moments_of (mended links o s) ≡ moments_of links
  left_moments = moments_mended links o s (length (places s.0) - 1) stood

  moves : (q : ℕ) → slice_get (left s.0) s.1 ≡ Some q
      → link_in (slice_set (mended links o s) p None) q ≡ Some s
  moves q m =
      let e : o ≡ Some q = told ∙ m in
      ap (λ (r : Option ℕ). link_in (slice_set (mended links r s) p None) q) e
      ∙ get_or-set_other (slice_set links q (Some s)) p q None None
      (moved_apart p s q was is (gets q e))
      ∙ get_or-set_same links q (Some s) None
      (within_from_link links q (s.0, length (places s.0) - 1) (stood q e))

  stays : (q : ℕ) → q ≢ p → slice_get (left s.0) s.1 ≢ Some q
      → link_in (slice_set (mended links o s) p None) q ≡ link_in links q
  stays q other n =
      get_or-set_other (mended links o s) p q None None other
      ∙ mended_other links o s q (λ e. n (sym told ∙ e))

  pub left_linked : AreLinked (link_in (slice_set (mended links o s) p None)) left
  left_linked = linked_left (link_in links) (link_in (slice_set (mended links o s) p None))
      places left p s was is own others (link_unset (mended links o s) p) moves stays

nothing_in : {X : Type 0} (k q : ℕ) → slice_index_or {A = Option X} (replicate k None) q None ≡ None
nothing_in zero zero = refl
nothing_in zero (suc q) = refl
nothing_in (suc k) zero = refl
nothing_in (suc k) (suc q) = nothing_in k q

behind_nothing : {X : Type 0} (xs : List (Option X)) (k q : ℕ)
    → slice_index_or (xs ++ replicate k None) q None ≡ slice_index_or xs q None
behind_nothing [] k zero = nothing_in k zero
behind_nothing [] k (suc q) = nothing_in k (suc q)
behind_nothing (x ∷ xs) k zero = refl
behind_nothing (x ∷ xs) k (suc q) = behind_nothing xs k q

pub at_padded : {X : Type 0} (xs : List (Option X)) (n q : ℕ)
    → slice_index_or (padded xs n) q None ≡ slice_index_or xs q None
at_padded xs n q = behind_nothing xs (n - length xs) q

pub within_padded : {X : Type 0} (xs : List (Option X)) (p : ℕ) → p < length (padded xs (p + 1))
within_padded {X} xs p =
    omega (
      arith,
      length-append xs (replicate (p + 1 - length xs) None),
      length-replicate {A = Option X} (p + 1 - length xs) None,
    )

pub padded_enough : {X : Type 0} (xs : List (Option X)) (n : ℕ) → n ≤ length xs
    → padded xs n ≡ xs
padded_enough {X} xs n within =
    let none : n - length xs ≡ 0 = omega arith in
    ap (λ k. xs ++ replicate {A = Option X} k None) none ∙ append-nil xs

moments_nothing : (k : ℕ) → map moment (replicate k None) ≡ replicate k None
moments_nothing zero = refl
moments_nothing (suc k) = ap (λ ms. None ∷ ms) (moments_nothing k)

pub moments_padded : (links : List (Option Link)) (n : ℕ)
    → moments_of (padded links n) ≡ padded (moments_of links) n
moments_padded links n =
    map-append moment links (replicate (n - length links) None)
    ∙ ap (λ ms. moments_of links ++ ms) (moments_nothing (n - length links))
    ∙ ap (λ m. moments_of links ++ replicate (n - m) None) (sym (length-map links moment))

-- a plan comes
pub added : (links : List (Option Link)) (places more : ℕ → List ℕ) (p m n : ℕ)
    → AreLinked (link_in links) places → link_in links p ≡ None
    → more m ≡ places m ++ p ∷ [] → ((k : ℕ) → k ≢ m → more k ≡ places k)
    → n ≡ length (places m)
    → AreLinked (link_in (slice_set (padded links (p + 1)) p (Some (m, n)))) more
added links places more p m n was none own others index =
    linked_more (link_in links) (link_in (slice_set (padded links (p + 1)) p (Some (m, n))))
    places more p m was none own others
    (get_or-set_same (padded links (p + 1)) p (Some (m, n)) None (within_padded links p)
    ∙ ap (λ i. Some (m, i)) index)
    (λ q other. get_or-set_other (padded links (p + 1)) p q (Some (m, n)) None other
    ∙ at_padded links (p + 1) q)

pub added_moments : (links : List (Option Link)) (p m n : ℕ)
    → moments_of (slice_set (padded links (p + 1)) p (Some (m, n)))
    ≡ planned (moments_of links) p m
added_moments links p m n =
    map-set moment (padded links (p + 1)) p (Some (m, n))
    ∙ ap (λ ms. slice_set ms p (Some m)) (moments_padded links (p + 1))

-- a plan moves: the place comes to the bucket of m, and then leaves the other
module _ (links : List (Option Link)) (places grown left : ℕ → List ℕ) (p : ℕ) (s : Link)
    (m n : ℕ) (o : Option ℕ) (was : AreLinked (link_in links) places)
    (is : link_in links p ≡ Some s) (apart : s.0 ≢ m) (come : grown m ≡ places m ++ p ∷ [])
    (rest : (k : ℕ) → k ≢ m → grown k ≡ places k)
    (own : left s.0 ≡ swap_remove (grown s.0) s.1 0)
    (others : (k : ℕ) → k ≢ s.0 → left k ≡ grown k) (told : o ≡ slice_get (left s.0) s.1)
    (index : n ≡ length (places m)) where
  -- the buckets as if the place had only left
  gone : ℕ → List ℕ
  gone k = cond (nat_eq k m) (places m) (left k)

  gone_here : gone m ≡ places m
  unfolding gone
  gone_here = ap (λ b. cond b (places m) (left m)) (eq-eqb m m refl)

  gone_else : (k : ℕ) → k ≢ m → gone k ≡ left k
  unfolding gone
  gone_else k d = ap (λ b. cond b (places m) (left k)) (ne_eqb k m d)

  own_gone : gone s.0 ≡ swap_remove (places s.0) s.1 0
  own_gone = gone_else s.0 apart ∙ own ∙ ap (λ xs. swap_remove xs s.1 0) (rest s.0 apart)

  others_gone : (k : ℕ) → k ≢ s.0 → gone k ≡ places k
  others_gone k d = elim (cases_eq k m) [
    | inl e ↦ ap gone e ∙ gone_here ∙ ap places (sym e)
    | inr f ↦ gone_else k f ∙ others k d ∙ rest k f
  ]

  told_gone : o ≡ slice_get (gone s.0) s.1
  told_gone = told ∙ sym (ap (λ xs. slice_get xs s.1) (gone_else s.0 apart))

  pub moved_moments : moments_of (slice_set (mended links o s) p (Some (m, n)))
      ≡ planned (moments_of links) p m
  moved_moments =
      let within : p + 1 ≤ length (moments_of links) =
      omega (arith, within_from_link links p s is, length-map links moment) in
      map-set moment (mended links o s) p (Some (m, n))
      ∙ ap (λ ms. slice_set ms p (Some m))
      (left_moments links places gone p s o was is own_gone others_gone told_gone
      ∙ sym (padded_enough (moments_of links) (p + 1) within))

  within_mended : (o : Option ℕ) → p < length (mended links o s)
  within_mended None = within_from_link links p s is
  within_mended (Some q) =
      omega (arith, within_from_link links p s is, length-set links q (Some s))

  pub moved_linked : AreLinked (link_in (slice_set (mended links o s) p (Some (m, n)))) left
  moved_linked =
      linked_more (link_in (slice_set (mended links o s) p None))
      (link_in (slice_set (mended links o s) p (Some (m, n)))) gone left p m
      (left_linked links places gone p s o was is own_gone others_gone told_gone)
      (link_unset (mended links o s) p)
      (others m (λ e. apart (sym e)) ∙ come ∙ ap (λ xs. xs ++ p ∷ []) (sym gone_here))
      (λ k d. sym (gone_else k d))
      (get_or-set_same (mended links o s) p (Some (m, n)) None (within_mended o)
      ∙ ap (λ i. Some (m, i)) (index ∙ ap length (sym gone_here)))
      (λ q d. get_or-set_other (mended links o s) p q (Some (m, n)) None d
      ∙ sym (get_or-set_other (mended links o s) p q None None d))

-- where moments up to t have no places, none is due by t
module _ (links : List (Option Link)) (places : ℕ → List ℕ) (t : ℕ)
    (was : AreLinked (link_in links) places) (empty : (m : ℕ) → m ≤ t → places m ≡ []) where
  later : (q : ℕ) (s : Link) → link_in links q ≡ Some s → t < s.0
  later q s e = elim (cases_lt t s.0) [
    | inl below ↦ below
    | inr past ↦ absurd (none-some q (sym (ap (λ xs. slice_get xs s.1) (empty s.0 past))
        ∙ was.stands q s e))
  ]

  told : (q : ℕ) (o : Option Link) → link_in links q ≡ o → is_due t (moment o) ≡ false
  told q None e = refl
  told q (Some s) e = lt-leb s.0 t (later q s e)

  pub none_due : (q : ℕ) → is_due t (plan_at (moments_of links) q) ≡ false
  none_due q = ap (is_due t) (plan_of_link links q) ∙ told q (link_in links q) refl
