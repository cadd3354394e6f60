-- Moves in the order of their keys, and of each key the last.
use Rattle.std.proofs.Common.{◌≡◌, ◌⊎◌, ℕ, suc, ◌+◌, Bool, true, false, ◌&&◌, List, [], ◌∷◌}
use Rattle.std.proofs.Common.{refl, sym, ap, subst, ◌∙◌, inl, inr, arith, add-one}
use Rattle.std.specs.Prelude.{filter, if◌then◌else◌, not, slice_index_or}
use Rattle.std.specs.Cmp.Lexicographic.{slice_cmp}
use Rattle.std.specs.List.Sorted.{IsSortedBy, IsStableBy, IsStrictlySortedBy, ties}
use Rattle.std.specs.Ordering.{is_lt, nat_cmp}
use Rattle.std.specs.Str.{bytes_eq}
use Rattle.std.specs.declared.cmp.Ordering.{Ordering}
use Rattle.std.specs.declared.cmp.Ordering.TheVariants.{Less, Equal, Greater}
use Rattle.std.proofs.lemmas.Map.Lookups.{exact_bytes}
use Rattle.pushed_keys.specs.Moves.{AreInOrder, is_next, last_words, moved_keys, said_of}
use Rattle.pushed_keys.specs.declared.moved.Moved.{Moved}
use Rattle.pushed_keys.proofs.Order.{Each, IsBelow, alike, below_above, below_all, like, unlike}
use Rattle.pushed_keys.proofs.Order.{unlike_above, with_itself}

-- a move is of a key below another's
abbrev pub before : Moved → Moved → Bool
before x y = is_lt (slice_cmp nat_cmp x.key.now y.key.now)

abbrev pub IsRising : List Moved → Type 0
IsRising [] = Unit {0}
IsRising (x ∷ []) = Unit {0}
IsRising (x ∷ y ∷ xs) = (before y x ≡ false) × IsRising (y ∷ xs)

pub rising : (xs : List Moved) → IsSortedBy before xs → IsRising xs
rising [] h = tt
rising (x ∷ []) h = tt
rising (x ∷ y ∷ xs) h = (
  h 0 x (omega arith) (omega arith),
  rising (y ∷ xs) (λ k d low high. rw add-one
      (subst (λ (n : ℕ). before (slice_index_or (x ∷ y ∷ xs) n d)
      (slice_index_or (x ∷ y ∷ xs) (suc k) d) ≡ false) (two_more k)
      (h (suc k) d (omega arith) (omega (arith, high))))),
)
  where
    two_more : (k : ℕ) → suc k + 1 ≡ suc (suc k)
    two_more k = omega arith

not_below : (a b : List ℕ) → is_lt (slice_cmp nat_cmp b a) ≡ false → IsBelow a b ⊎ (a ≡ b)
not_below a b h = by (slice_cmp nat_cmp a b) refl
  where
    by : (o : Ordering) → slice_cmp nat_cmp a b ≡ o → IsBelow a b ⊎ (a ≡ b)
    by Less is = inl is
    by Equal is = inr (exact_bytes a b is)
    by Greater is = absurd (cc (sym h ∙ ap is_lt (below_above a b is)))

each_from : (a : List ℕ) (x : Moved) (xs : List Moved) → IsRising (x ∷ xs)
    → IsBelow a x.key.now → Each (IsBelow a) (moved_keys xs)
each_from a x [] h below = tt
each_from a x (y ∷ xs) h below =
    let here : IsBelow a y.key.now = by (not_below x.key.now y.key.now h.0) in
    (here, each_from a y xs h.1 here)
  where
    by : IsBelow x.key.now y.key.now ⊎ (x.key.now ≡ y.key.now) → IsBelow a y.key.now
    by (inl less) = below_all a x.key.now y.key.now below less
    by (inr same) = subst (λ (k : List ℕ). IsBelow a k) same below

each_words : (P : List ℕ → Type 0) (xs : List Moved) → Each P (moved_keys xs)
    → Each P (moved_keys (last_words xs))
each_words P [] h = tt
each_words P (x ∷ xs) h = by (is_next x.key.now xs) (each_words P xs h.1)
  where
    by : (b : Bool) → Each P (moved_keys (last_words xs))
        → Each P (moved_keys (if b then last_words xs else x ∷ last_words xs))
    by true rest = rest
    by false rest = (h.0, rest)

pub order_words : (xs : List Moved) → IsRising xs → AreInOrder (moved_keys (last_words xs))
unfolding IsStrictlySortedBy
order_words [] h = tt
order_words (x ∷ []) h = (tt, tt)
order_words (x ∷ y ∷ xs) h = by (bytes_eq x.key.now y.key.now) refl (order_words (y ∷ xs) h.1)
  where
    less : bytes_eq x.key.now y.key.now ≡ false
        → IsBelow x.key.now y.key.now ⊎ (x.key.now ≡ y.key.now) → IsBelow x.key.now y.key.now
    less isnt (inl below) = below
    less isnt (inr same) = absurd (cc (sym isnt ∙ like x.key.now y.key.now same))

    by : (b : Bool) → bytes_eq x.key.now y.key.now ≡ b
        → AreInOrder (moved_keys (last_words (y ∷ xs)))
        → AreInOrder (moved_keys (if b then last_words (y ∷ xs) else x ∷ last_words (y ∷ xs)))
    by true is rest = rest
    by false is rest =
        let below : IsBelow x.key.now y.key.now =
        less is (not_below x.key.now y.key.now h.0) in (
          each_words (IsBelow x.key.now) (y ∷ xs)
              (below, each_from x.key.now y xs h.1 below),
          rest,
        )

-- the last of a key says what all say
pub said_words : (key : List ℕ) (xs : List Moved) (was : Bool)
    → said_of key (last_words xs) was ≡ said_of key xs was
said_words key [] was = refl
said_words key (x ∷ []) was = refl
said_words key (x ∷ y ∷ xs) was =
    by (bytes_eq x.key.now y.key.now) refl (λ was. said_words key (y ∷ xs) was)
  where
    -- the earlier of two words of a key doesn't count
    later : (b : Bool) → bytes_eq key y.key.now ≡ b → x.key.now ≡ y.key.now
        → said_of key xs (if b then y.is_in else was)
        ≡ said_of key xs (if b then y.is_in else (if bytes_eq key x.key.now then x.is_in else was))
    later true is same = refl
    later false is same =
        let isnt : bytes_eq key x.key.now ≡ false =
        subst (λ (k : List ℕ). bytes_eq key k ≡ false) (sym same) is in
        sym (ap (λ (b : Bool). said_of key xs (if b then x.is_in else was)) isnt)

    by : (b : Bool) → bytes_eq x.key.now y.key.now ≡ b
        → ((w : Bool) → said_of key (last_words (y ∷ xs)) w ≡ said_of key (y ∷ xs) w)
        → said_of key (if b then last_words (y ∷ xs) else x ∷ last_words (y ∷ xs)) was
        ≡ said_of key (x ∷ y ∷ xs) was
    by true is f =
        f was ∙ later (bytes_eq key y.key.now) refl (alike x.key.now y.key.now is)
    by false is f = f (if bytes_eq key x.key.now then x.is_in else was)

-- ---- a stable sort

-- a move is of a key
abbrev own : List ℕ → Moved → Bool
own key move = bytes_eq key move.key.now

-- some move of a key
abbrev some_move : List ℕ → Moved
some_move key = record { key = record { ref_ptr = (0, 0); now = key }; is_in = false }

ties_own : (key : List ℕ) (move : Moved) → ties before (some_move key) move ≡ own key move
ties_own key move = by (slice_cmp nat_cmp key move.key.now) refl
  where
    by : (o : Ordering) → slice_cmp nat_cmp key move.key.now ≡ o
        → (not (is_lt (slice_cmp nat_cmp key move.key.now))
        && not (is_lt (slice_cmp nat_cmp move.key.now key))) ≡ own key move
    by Less is = rw (is, unlike key move.key.now is) refl
    by Equal is =
        let same : key ≡ move.key.now = exact_bytes key move.key.now is in
        let back : slice_cmp nat_cmp move.key.now key ≡ Equal =
        subst (λ (k : List ℕ). slice_cmp nat_cmp move.key.now k ≡ Equal) (sym same)
        (with_itself move.key.now) in
        rw (is, back, like key move.key.now same) refl
    by Greater is =
        rw (is, below_above key move.key.now is, unlike_above key move.key.now is) refl

same_filter : (p q : Moved → Bool) → ((move : Moved) → p move ≡ q move) → (xs : List Moved)
    → filter p xs ≡ filter q xs
same_filter p q same [] = refl
same_filter p q same (x ∷ xs) =
    (λ i. if same x i then x ∷ filter p xs else filter p xs)
    ∙ ap (λ (ms : List Moved). if q x then x ∷ ms else ms) (same_filter p q same xs)

said_own : (key : List ℕ) (xs : List Moved) (was : Bool)
    → said_of key xs was ≡ said_of key (filter (own key) xs) was
said_own key [] was = refl
said_own key (x ∷ xs) was = by (own key x) refl (λ was. said_own key xs was)
  where
    by : (b : Bool) → own key x ≡ b
        → ((w : Bool) → said_of key xs w ≡ said_of key (filter (own key) xs) w)
        → said_of key xs (if own key x then x.is_in else was)
        ≡ said_of key (if b then x ∷ filter (own key) xs else filter (own key) xs) was
    by true is f = f (if own key x then x.is_in else was)
    by false is f =
        ap (λ (b : Bool). said_of key xs (if b then x.is_in else was)) is ∙ f was

pub said_stable : (xs ys : List Moved) → IsStableBy before xs ys → (key : List ℕ) (was : Bool)
    → said_of key ys was ≡ said_of key xs was
said_stable xs ys stable key was =
    said_own key ys was
    ∙ ap (λ (ms : List Moved). said_of key ms was)
    (sym (same_filter (ties before (some_move key)) (own key) (ties_own key) ys)
    ∙ stable (some_move key)
    ∙ same_filter (ties before (some_move key)) (own key) (ties_own key) xs)
    ∙ sym (said_own key xs was)
