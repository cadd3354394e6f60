-- Candidates in order: who stays behind the last one of as many as there is room for isn't kept.
use Rattle.std.proofs.Common.{◌≡◌, ℕ, zero, suc, Bool, true, false, cond, List, [], ◌∷◌, length}
use Rattle.std.proofs.Common.{get_or, map, take, refl, ap, ◌∙◌, arith}
use Rattle.std.proofs.lemmas.Cmp.{upto}
use Rattle.std.specs.List.{AllByRecursion}
use Rattle.std.specs.Ordering.{is_gt, is_lt, ordering_reverse}
use Rattle.std.specs.declared.cmp.Ordering.{Ordering}
use Rattle.std.specs.declared.cmp.Ordering.TheVariants.{Less, Equal, Greater}
use Rattle.fleet_model.proofs.Ranks.{all-put, rank_cmp_total}
use Rattle.fleet_model.specs.Ranking.{put_in_order, rank_cmp}
use Rattle.ranked.specs.Walk.{AreRanked}

abbrev Entry : Type 0
Entry = List ℕ × ℕ

-- ---- two and three of them
not_above : (x y : Entry) → is_lt (rank_cmp x y) ≡ false → is_gt (rank_cmp y x) ≡ false
not_above x y h = ap is_gt (rank_cmp_total.antisymm y x) ∙ turned (rank_cmp x y) ∙ h
  where
    turned : (r : Ordering) → is_gt (ordering_reverse r) ≡ is_lt r
    turned Less = refl
    turned Equal = refl
    turned Greater = refl

not_before : (x y : Entry) → is_gt (rank_cmp y x) ≡ false → is_lt (rank_cmp x y) ≡ false
not_before x y h = ap is_lt (rank_cmp_total.antisymm x y) ∙ turned (rank_cmp y x) ∙ h
  where
    turned : (r : Ordering) → is_lt (ordering_reverse r) ≡ is_gt r
    turned Less = refl
    turned Equal = refl
    turned Greater = refl

stays_behind : (x y z : Entry) → is_lt (rank_cmp x y) ≡ false → is_lt (rank_cmp y z) ≡ false
    → is_lt (rank_cmp x z) ≡ false
stays_behind x y z xy yz =
    not_before x z (upto rank_cmp_total z y x (not_above y z yz) (not_above x y xy))

one_way : (x y : Entry) → is_lt (rank_cmp x y) ≡ true → is_lt (rank_cmp y x) ≡ false
one_way x y h = ap is_lt (rank_cmp_total.antisymm y x) ∙ turned (rank_cmp x y) h
  where
    turned : (r : Ordering) → is_lt r ≡ true → is_lt (ordering_reverse r) ≡ false
    turned Less h = refl
    turned Equal h = refl
    turned Greater h = cc

-- ---- they stay in order
pub ranked-put : (x : Entry) (cs : List Entry) → AreRanked cs
    → AreRanked (put_in_order rank_cmp x cs)
ranked-put x [] h = (tt, tt)
ranked-put x (c ∷ cs) h = by (is_lt (rank_cmp x c)) refl (ranked-put x cs h.1)
  where
    behind : (ds : List Entry) → is_lt (rank_cmp c x) ≡ false
        → AllByRecursion (λ d. is_lt (rank_cmp d c) ≡ false) ds
        → AllByRecursion (λ d. is_lt (rank_cmp d x) ≡ false) ds
    behind [] first all = tt
    behind (d ∷ ds) first all = (stays_behind d c x all.0 first, behind ds first all.1)

    by : (b : Bool) → is_lt (rank_cmp x c) ≡ b → AreRanked (put_in_order rank_cmp x cs)
        → AreRanked (cond b (x ∷ c ∷ cs) (c ∷ put_in_order rank_cmp x cs))
    by true is rest = ((one_way x c is, behind cs (one_way x c is) h.0), h)
    by false is rest = (all-put rank_cmp (λ d. is_lt (rank_cmp d c) ≡ false) x cs is h.0, rest)

all-take : {X : Type 0} (P : X → Type 0) (m : ℕ) (xs : List X) → AllByRecursion P xs
    → AllByRecursion P (take m xs)
all-take P zero xs h = tt
all-take P (suc m) [] h = tt
all-take P (suc m) (x ∷ xs) h = (h.0, all-take P m xs h.1)

pub ranked-take : (m : ℕ) (cs : List Entry) → AreRanked cs → AreRanked (take m cs)
ranked-take zero cs h = tt
ranked-take (suc m) [] h = tt
ranked-take (suc m) (c ∷ cs) h =
    (all-take (λ d. is_lt (rank_cmp d c) ≡ false) m cs h.0, ranked-take m cs h.1)

-- ---- who doesn't come before the last one comes before none
pub before_none : {X : Type 0} (f : X → Entry) (x : Entry) (xs : List X) (i : ℕ) (d : X)
    → AreRanked (map f xs) → suc i ≡ length xs → is_lt (rank_cmp x (f (get_or xs i d))) ≡ false
    → AllByRecursion (λ c. is_lt (rank_cmp x c) ≡ false) (map f xs)
before_none f x [] i d ranked len h = tt
before_none f x (c ∷ []) zero d ranked len h = (h, tt)
before_none f x (c ∷ []) (suc i) d ranked len h = absurd (omega (arith, len))
before_none f x (c ∷ e ∷ cs) zero d ranked len h = absurd (omega (arith, len))
before_none f x (c ∷ e ∷ cs) (suc i) d ranked len h =
    let rest = before_none f x (e ∷ cs) i d ranked.1 (omega (arith, len)) h in
    (stays_behind x (f e) (f c) rest.0 ranked.0.0, rest)

-- and isn't among the first ones then
pub put_last : (x : Entry) (cs : List Entry)
    → AllByRecursion (λ c. is_lt (rank_cmp x c) ≡ false) cs
    → take (length cs) (put_in_order rank_cmp x cs) ≡ cs
put_last x [] all = refl
put_last x (c ∷ cs) all = rw all.0 (ap (λ l. c ∷ l) (put_last x cs all.1))
