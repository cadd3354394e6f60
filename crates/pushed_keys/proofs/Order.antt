-- Keys in order.
use Rattle.std.proofs.Common.{◌≡◌, ℕ, Bool, true, false, ◌||◌, List, [], ◌∷◌, ◌++◌}
use Rattle.std.proofs.Common.{refl, sym, ap, subst, ◌∙◌}
use Rattle.std.specs.Cmp.Lexicographic.{slice_cmp}
use Rattle.std.specs.List.{AllByRecursion}
use Rattle.std.specs.List.Sorted.{IsStrictlySortedBy}
use Rattle.std.specs.Ordering.{is_eq, nat_cmp}
use Rattle.std.specs.Str.{bytes_eq}
use Rattle.std.specs.declared.cmp.Ordering.{Ordering}
use Rattle.std.specs.declared.cmp.Ordering.TheVariants.{Less, Equal, Greater}
use Rattle.std.proofs.lemmas.Cmp.{nat_list_cmp_total}
use Rattle.std.proofs.lemmas.Map.Lookups.{exact_bytes}
use Rattle.std.proofs.lemmas.Map.Text.{is_eq-slice_cmp}
use Rattle.std.proofs.lemmas.Slice.Eq.{bytes_eq-Decides}
use Rattle.std.specs.Cmp.{Equal-is}
use Rattle.pushed_keys.specs.Moves.{AreInOrder, is_in, marked}
use Rattle.pushed_keys.specs.declared.told.Mark.{Mark}

abbrev pub IsBelow : List ℕ → List ℕ → Type 0
IsBelow a b = slice_cmp nat_cmp a b ≡ Less

abbrev pub Each : (List ℕ → Type 0) → List (List ℕ) → Type 0
Each P keys = AllByRecursion P keys

turned : Ordering → Ordering
turned Less = Greater
turned Equal = Equal
turned Greater = Less

pub below_above : (a b : List ℕ) → slice_cmp nat_cmp a b ≡ Greater → IsBelow b a
unfolding turned
below_above a b e = nat_list_cmp_total.antisymm b a ∙ ap turned e

pub above_below : (a b : List ℕ) → IsBelow a b → slice_cmp nat_cmp b a ≡ Greater
unfolding turned
above_below a b e = nat_list_cmp_total.antisymm b a ∙ ap turned e

pub with_itself : (a : List ℕ) → slice_cmp nat_cmp a a ≡ Equal
with_itself a =
    (Equal-is (slice_cmp nat_cmp a a)).0 (is_eq-slice_cmp a a ∙ (bytes_eq-Decides a a).1 refl)

pub below_all : (a b c : List ℕ) → IsBelow a b → IsBelow b c → IsBelow a c
below_all a b c ab bc = nat_list_cmp_total.trans a b c ab bc

pub each_above : (a b : List ℕ) (keys : List (List ℕ)) → IsBelow a b → Each (IsBelow b) keys
    → Each (IsBelow a) keys
each_above a b [] ab h = tt
each_above a b (key ∷ keys) ab h = (below_all a b key ab h.0, each_above a b keys ab h.1)

pub unlike : (a b : List ℕ) → IsBelow a b → bytes_eq a b ≡ false
unlike a b e = sym (is_eq-slice_cmp a b) ∙ ap is_eq e

pub unlike_above : (a b : List ℕ) → slice_cmp nat_cmp a b ≡ Greater → bytes_eq a b ≡ false
unlike_above a b e = sym (is_eq-slice_cmp a b) ∙ ap is_eq e

pub alike : (a b : List ℕ) → bytes_eq a b ≡ true → a ≡ b
alike a b e = (bytes_eq-Decides a b).0 e

pub like : (a b : List ℕ) → a ≡ b → bytes_eq a b ≡ true
like a b e = (bytes_eq-Decides a b).1 e

-- a key below others isn't one of them
pub not_in : (key : List ℕ) (set : List (List ℕ)) → Each (IsBelow key) set → is_in key set ≡ false
not_in key [] h = refl
not_in key (other ∷ set) h = rw (unlike key other h.0) (not_in key set h.1)

-- the same keys in order
pub same_keys : (xs ys : List (List ℕ)) → AreInOrder xs → AreInOrder ys
    → ((key : List ℕ) → is_in key xs ≡ is_in key ys) → xs ≡ ys
unfolding IsStrictlySortedBy
same_keys [] [] ox oy same = refl
same_keys [] (y ∷ ys) ox oy same =
    absurd (cc (same y ∙ ap (λ (b : Bool). b || is_in y ys) (like y y refl)))
same_keys (x ∷ xs) [] ox oy same =
    absurd (cc (sym (same x) ∙ ap (λ (b : Bool). b || is_in x xs) (like x x refl)))
same_keys (x ∷ xs) (y ∷ ys) ox oy same =
    by (slice_cmp nat_cmp x y) refl (λ rest. same_keys xs ys ox.1 oy.1 rest)
  where
    tail : (key : List ℕ) (b : Bool) → bytes_eq key x ≡ b → x ≡ y → is_in key xs ≡ is_in key ys
    tail key true is e =
        let k : key ≡ x = alike key x is in
        subst (λ (q : List ℕ). is_in q xs ≡ is_in q ys) (sym k)
        (not_in x xs ox.0 ∙ sym (not_in x ys (subst (λ (q : List ℕ). Each (IsBelow q) ys)
        (sym e) oy.0)))
    tail key false is e =
        let isnt : bytes_eq key y ≡ false = subst (λ (q : List ℕ). bytes_eq key q ≡ false) e is in
        sym (ap (λ (b : Bool). b || is_in key xs) is) ∙ same key
        ∙ ap (λ (b : Bool). b || is_in key ys) isnt

    by : (o : Ordering) → slice_cmp nat_cmp x y ≡ o
        → (((key : List ℕ) → is_in key xs ≡ is_in key ys) → xs ≡ ys) → x ∷ xs ≡ y ∷ ys
    by Less is rest =
        absurd (cc (sym (ap (λ (b : Bool). b || is_in x xs) (like x x refl)) ∙ same x
        ∙ not_in x (y ∷ ys) (is, each_above x y ys is oy.0)))
    by Equal is rest =
        let e : x ≡ y = exact_bytes x y is in
        λ i. e i ∷ rest (λ key. tail key (bytes_eq key x) refl e) i
    by Greater is rest =
        let under : IsBelow y x = below_above x y is in
        absurd (cc (sym (ap (λ (b : Bool). b || is_in y ys) (like y y refl)) ∙ sym (same y)
        ∙ not_in y (x ∷ xs) (under, each_above y x xs under ox.0)))

-- marks at the front and behind, of marks in order
pub order_front : (xs ys : List Mark) → AreInOrder (marked (xs ++ ys)) → AreInOrder (marked xs)
unfolding IsStrictlySortedBy
order_front [] ys h = tt
order_front (x ∷ xs) ys h = (front xs ys h.0, order_front xs ys h.1)
  where
    front : (xs ys : List Mark) → Each (IsBelow x.key) (marked (xs ++ ys))
        → Each (IsBelow x.key) (marked xs)
    front [] ys h = tt
    front (y ∷ xs) ys h = (h.0, front xs ys h.1)

pub order_behind : (xs ys : List Mark) → AreInOrder (marked (xs ++ ys)) → AreInOrder (marked ys)
unfolding IsStrictlySortedBy
order_behind [] ys h = h
order_behind (x ∷ xs) ys h = order_behind xs ys h.1

-- marks behind the first
pub order_rest : (all : List Mark) (mark : Mark) (rest : List Mark) → all ≡ mark ∷ rest
    → AreInOrder (marked all) → AreInOrder (marked rest)
unfolding IsStrictlySortedBy
order_rest all mark rest is h =
    order_behind (mark ∷ []) rest (subst (λ (ms : List Mark). AreInOrder (marked ms)) is h)
