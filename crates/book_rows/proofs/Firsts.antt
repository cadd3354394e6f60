-- The first of the keys that came: what is held of them, and what is gone.
use Rattle.std.proofs.Common.{◌≡◌, ℕ, zero, suc, ◌+◌, ◌-◌, ◌<◌, ◌≤◌, Bool, true, false, cond}
use Rattle.std.proofs.Common.{not, List, [], ◌∷◌, ◌++◌, Option, None, Some, length, take, drop}
use Rattle.std.proofs.Common.{refl, sym, ap, ◌∙◌, subst, arith, append_assoc, ⊎_elim}
use Rattle.std.specs.Prelude.{IfSome, count_by, filter, slice_get}
use Rattle.std.proofs.lemmas.Bool.{cases_lt, false≢true}
use Rattle.std.proofs.lemmas.Cmp.{nat_list_cmp_total, tied_itself}
use Rattle.std.proofs.lemmas.List.{append-nil, length-take-le, take-append-drop}
use Rattle.std.proofs.lemmas.List.Sorted.{IsPermutation-append_left}
use Rattle.std.proofs.lemmas.List.Sorted.{IsPermutation-append_right}
use Rattle.std.proofs.lemmas.List.Sorted.{IsPermutation-middle, IsPermutation-refl}
use Rattle.std.proofs.lemmas.List.Sorted.{IsPermutation-trans}
use Rattle.std.proofs.lemmas.List.Sorted.{length_permutation, sum_by-IsPermutation}
use Rattle.std.proofs.lemmas.List.Sums.{count_by-le-length, sum_by-append, sum_by-cons}
use Rattle.std.proofs.lemmas.Map.Lookups.{exact_bytes}
use Rattle.std.specs.Cmp.Lexicographic.{slice_cmp}
use Rattle.std.specs.List.{AllByRecursion}
use Rattle.std.specs.List.Sorted.{IsPermutation, IsStrictlySortedBy}
use Rattle.std.specs.Option.{option_map}
use Rattle.std.specs.Ordering.{is_lt, nat_cmp, ordering_reverse}
use Rattle.std.specs.declared.cmp.Ordering.{Ordering}
use Rattle.std.specs.declared.cmp.Ordering.TheVariants.{Less, Equal, Greater}
use Rattle.peer_rows.specs.Places.{Keys}
use Rattle.book_rows.specs.First.{AreFirst, AreHeld, AreOnce, HoldsOn, IsCut, IsLastOf}
use Rattle.book_rows.specs.First.{IsSortedCut, SeeksOn, stays_out}
use Rattle.book_rows.proofs.KeyOrder.{AreBelow, Entry, InOrder, all-any, all-append, all-at, all-map}
use Rattle.book_rows.proofs.KeyOrder.{below-drop, heads, in_order-take, none_past, once-left, once-moved}

-- ---- what is behind a key
less_from : (r : Ordering) → is_lt r ≡ true → r ≡ Less
less_from Less h = refl
less_from Equal h = absurd cc
less_from Greater h = absurd cc

-- a key that isn't behind one that is below another is below that one
not_behind : (last key other : List ℕ) → not (is_lt (slice_cmp nat_cmp last key)) ≡ true
    → slice_cmp nat_cmp last other ≡ Less → slice_cmp nat_cmp key other ≡ Less
not_behind last key other up below = by (slice_cmp nat_cmp last key) refl
  where
    by : (r : Ordering) → slice_cmp nat_cmp last key ≡ r → slice_cmp nat_cmp key other ≡ Less
    by Less is = absurd (false≢true (sym (ap (λ r. not (is_lt r)) is) ∙ up))
    by Equal is = subst (λ (k : List ℕ). slice_cmp nat_cmp k other ≡ Less)
        (exact_bytes last key is) below
    by Greater is = nat_list_cmp_total.trans key last other
        (nat_list_cmp_total.antisymm key last ∙ ap ordering_reverse is)
        below

-- ---- counting
abbrev within : List ℕ → Entry → Bool
within last e = not (stays_out (Some last) e.0)

counted-all : (p : Entry → Bool) (keys : Keys) → AllByRecursion (λ e. p e ≡ true) keys
    → count_by p keys ≡ length keys
counted-all p [] h = refl
counted-all p (e ∷ keys) h =
    let own : count_by p (e ∷ keys) ≡ 1 + count_by p keys =
    sum_by-cons (λ x. cond (p x) 1 0) e keys
    ∙ ap (λ (b : Bool). cond b 1 0 + count_by p keys) h.0 in
    omega (arith, own, counted-all p keys h.1)

counted-none : (p : Entry → Bool) (keys : Keys) → AllByRecursion (λ e. p e ≡ false) keys
    → count_by p keys ≡ 0
counted-none p [] h = refl
counted-none p (e ∷ keys) h =
    let own : count_by p (e ∷ keys) ≡ 0 + count_by p keys =
    sum_by-cons (λ x. cond (p x) 1 0) e keys
    ∙ ap (λ (b : Bool). cond b 1 0 + count_by p keys) h.0 in
    omega (arith, own, counted-none p keys h.1)

-- of keys in order so many are within a key: then these are the first ones
first-within : (last : List ℕ) (n : ℕ) (keys : Keys) → InOrder keys
    → n ≤ count_by (within last) keys → AllByRecursion (λ e. within last e ≡ true) (take n keys)
unfolding IsStrictlySortedBy
first-within last zero keys h enough = tt
first-within last (suc n) [] h enough = absurd (omega (arith, enough))
first-within last (suc n) (e ∷ keys) h enough =
    by (λ more. first-within last n keys h.1 more) (within last e) refl
  where
    by : (n ≤ count_by (within last) keys
        → AllByRecursion (λ x. within last x ≡ true) (take n keys)) → (b : Bool)
        → within last e ≡ b → AllByRecursion (λ x. within last x ≡ true) (take (suc n) (e ∷ keys))
    by rest true is =
        let more : count_by (within last) (e ∷ keys) ≡ 1 + count_by (within last) keys =
        sum_by-cons (λ x. cond (within last x) 1 0) e keys
        ∙ ap (λ (b : Bool). cond b 1 0 + count_by (within last) keys) is in
        (is, rest (omega (arith, enough, more)))
    by rest false is =
        let out : slice_cmp nat_cmp last e.0 ≡ Less =
        less_from (slice_cmp nat_cmp last e.0) (turned (is_lt (slice_cmp nat_cmp last e.0)) is) in
        let none : count_by (within last) (e ∷ keys) ≡ 0 =
        counted-none (within last) (e ∷ keys) (
          is,
          all-map (λ x. slice_cmp nat_cmp e.0 x.0 ≡ Less) (λ x. within last x ≡ false)
              (λ x up. ap (λ r. not (is_lt r)) (nat_list_cmp_total.trans last e.0 x.0 out up)) keys
              (heads e.0 keys h.0),
        ) in
        absurd (omega (arith, enough, none))
      where
        turned : (b : Bool) → not b ≡ false → b ≡ true
        turned true h = refl
        turned false h = absurd cc

-- the last of keys in order has all of them within it
up_to_last : (keys : Keys) (i : ℕ) (last : Entry) → slice_get keys i ≡ Some last
    → length keys ≡ i + 1 → InOrder keys → AllByRecursion (λ e. within last.0 e ≡ true) keys
unfolding IsStrictlySortedBy
up_to_last [] i last is len h = tt
up_to_last (e ∷ []) zero last is len h = (subst (λ (o : Option Entry). by o) is itself, tt)
  where
    by : Option Entry → Type 0
    by None = Unit {0}
    by (Some z) = within z.0 e ≡ true

    itself : within e.0 e ≡ true
    itself = ap (λ r. not (is_lt r)) (tied_itself nat_list_cmp_total e.0)
up_to_last (e ∷ (f ∷ keys)) zero last is len h = absurd (omega (arith, len))
up_to_last (e ∷ keys) (suc i) last is len h =
    let above : slice_cmp nat_cmp e.0 last.0 ≡ Less =
    all-at (λ x. slice_cmp nat_cmp e.0 x.0 ≡ Less) keys i last is (heads e.0 keys h.0) in (
      ap (λ r. not (is_lt r)) (nat_list_cmp_total.antisymm last.0 e.0
          ∙ ap ordering_reverse above),
      up_to_last keys i last is (omega (arith, len)) h.1,
    )

-- ---- what is held as keys come
module _ (most : ℕ) (all held : Keys) (last : Option (List ℕ)) where
  pub held_gone : (e : Entry) (rest : Keys) → stays_out last e.0 ≡ true
      → AreHeld most all held last (e ∷ rest) → AreHeld most all held last rest
  held_gone e rest out h = record {
    gone = e ∷ h.gone;
    moved = IsPermutation-trans all (held ++ (h.gone ++ e ∷ rest)) (held ++ (e ∷ h.gone ++ rest))
        h.moved (IsPermutation-append_right held (h.gone ++ e ∷ rest) (e ∷ (h.gone ++ rest))
        (IsPermutation-middle h.gone e rest));
    behind = (out, h.behind);
    enough = h.enough;
    some = h.some;
  }

  more-enough : (o : Option (List ℕ)) (e : Entry)
      → IfSome o (λ key. most ≤ count_by (within key) held)
      → IfSome o (λ key. most ≤ count_by (within key) (held ++ e ∷ []))
  more-enough None e h = tt
  more-enough (Some key) e h = omega (
    arith,
    h,
    sum_by-append (λ x. cond (within key x) 1 0) held (e ∷ []),
  )

  pub held_taken : (e : Entry) (rest : Keys) → AreHeld most all held last (e ∷ rest)
      → AreHeld most all (held ++ e ∷ []) last rest
  held_taken e rest h = record {
    gone = h.gone;
    moved = subst (λ (l : Keys). IsPermutation all l)
        (sym (append_assoc held (e ∷ []) (h.gone ++ rest)))
        (IsPermutation-trans all (held ++ (h.gone ++ e ∷ rest)) (held ++ e ∷ (h.gone ++ rest))
        h.moved (IsPermutation-append_right held (h.gone ++ e ∷ rest) (e ∷ (h.gone ++ rest))
        (IsPermutation-middle h.gone e rest)));
    behind = h.behind;
    enough = more-enough last e h.enough;
    some = h.some;
  }

-- ---- what is held is put in order, and the first so many are left
module _ (most : ℕ) (all held : Keys) (last : Option (List ℕ)) (rest : Keys) (once : AreOnce all)
    (h : AreHeld most all held last rest) where
  held_once : AreOnce held
  held_once = once-left held (h.gone ++ rest) (once-moved all (held ++ (h.gone ++ rest)) h.moved
      once)

  module _ (first : Keys) (cut : AreOnce held → IsSortedCut most held first) where
    own : IsSortedCut most held first
    own = cut held_once

    abbrev left : Keys
    left = drop most own.sorted

    first-moved : IsPermutation all (first ++ ((left ++ h.gone) ++ rest))
    first-moved = subst (λ (l : Keys). IsPermutation all l) joined
        (IsPermutation-trans all (held ++ (h.gone ++ rest)) (own.sorted ++ (h.gone ++ rest)) h.moved
        (IsPermutation-append_left (h.gone ++ rest) held own.sorted own.moved))
      where
        joined : own.sorted ++ (h.gone ++ rest) ≡ first ++ ((left ++ h.gone) ++ rest)
        joined = ap (λ (l : Keys). l ++ (h.gone ++ rest))
            (sym (take-append-drop most own.sorted)
            ∙ ap (λ (l : Keys). l ++ left) (sym own.taken))
            ∙ append_assoc first left (h.gone ++ rest)
            ∙ ap (λ (l : Keys). first ++ l) (sym (append_assoc left h.gone rest))

    first-in_order : InOrder first
    first-in_order = subst (λ (l : Keys). InOrder l) (sym own.taken)
        (in_order-take most own.sorted own.in_order)

    -- what was gone stands behind the first ones
    gone-below : (o : Option (List ℕ)) (gone : Keys)
        → IfSome o (λ key. most ≤ count_by (within key) held)
        → AllByRecursion (λ e. stays_out o e.0 ≡ true) gone → AreBelow first gone
    gone-below None gone enough behind =
        all-map (λ (e : Entry). false ≡ true)
        (λ o. AllByRecursion (λ e. slice_cmp nat_cmp e.0 o.0 ≡ Less) first)
        (λ o wrong. absurd (false≢true wrong)) gone behind
    gone-below (Some key) gone enough behind =
        let counted : count_by (within key) own.sorted ≡ count_by (within key) held =
        sum_by-IsPermutation (λ x. cond (within key x) 1 0) held own.sorted own.moved in
        let inside : AllByRecursion (λ e. within key e ≡ true) first =
        subst (λ (l : Keys). AllByRecursion (λ e. within key e ≡ true) l) (sym own.taken)
        (first-within key most own.sorted own.in_order (omega (arith, enough, counted))) in
        all-map (λ (o : Entry). is_lt (slice_cmp nat_cmp key o.0) ≡ true)
        (λ o. AllByRecursion (λ e. slice_cmp nat_cmp e.0 o.0 ≡ Less) first)
        (λ o out. all-map (λ (e : Entry). within key e ≡ true)
        (λ e. slice_cmp nat_cmp e.0 o.0 ≡ Less)
        (λ e up. not_behind key e.0 o.0 up (less_from (slice_cmp nat_cmp key o.0) out)) first
        inside) gone behind

    first-below : AreBelow first (left ++ h.gone)
    first-below = all-append (λ o. AllByRecursion (λ e. slice_cmp nat_cmp e.0 o.0 ≡ Less) first)
        left h.gone
        (subst (λ (l : Keys). AreBelow l left) (sym own.taken)
        (below-drop most own.sorted own.in_order))
        (gone-below last h.gone h.enough h.behind)

    first-length : most ≤ length held → length first ≡ most
    first-length many = ap (λ (l : Keys). length l) own.taken
        ∙ length-take-le most own.sorted
        (omega (arith, many, length_permutation held own.sorted own.moved))

    pub held_cut : (later : Option (List ℕ)) → most ≤ length held → IsLastOf later first
        → AreHeld most all first later rest
    held_cut later many is = record {
      gone = left ++ h.gone;
      moved = first-moved;
      behind = (by (slice_get first (length first - 1)) refl).0;
      enough = (by (slice_get first (length first - 1)) refl).1;
      some = h.some;
    }
      where
        full : length first ≡ most
        full = first-length many

        by : (o : Option Entry) → slice_get first (length first - 1) ≡ o
            → AllByRecursion (λ e. stays_out later e.0 ≡ true) (left ++ h.gone)
            × IfSome later (λ key. most ≤ count_by (within key) first)
        by None none =
            absurd (omega (arith, h.some, full, none_past first (length first - 1) none))
        by (Some e) found =
            let key : later ≡ Some e.0 = is ∙ ap (option_map (λ (x : Entry). x.0)) found in (
              subst (λ (o : Option (List ℕ)). AllByRecursion (λ x. stays_out o x.0 ≡ true)
                  (left ++ h.gone)) (sym key)
                  (all-map (λ o. AllByRecursion (λ x. slice_cmp nat_cmp x.0 o.0 ≡ Less) first)
                  (λ o. is_lt (slice_cmp nat_cmp e.0 o.0) ≡ true)
                  (λ o below. ap is_lt (all-at (λ (x : Entry). slice_cmp nat_cmp x.0 o.0 ≡ Less)
                  first (length first - 1) e found below)) (left ++ h.gone) first-below),
              subst (λ (o : Option (List ℕ)). IfSome o
                  (λ k. most ≤ count_by (within k) first)) (sym key)
                  (omega (
                    arith,
                    full,
                    counted-all (within e.0) first
                        (up_to_last first (length first - 1) e found (omega (arith, full, h.some))
                        first-in_order),
                  )),
            )

    pub first_held : rest ≡ [] → AreFirst most all first
    first_held none = record {
      others = left ++ h.gone;
      moved = subst (λ (l : Keys). IsPermutation all (first ++ l))
          (ap (λ (l : Keys). (left ++ h.gone) ++ l) none ∙ append-nil (left ++ h.gone)) first-moved;
      in_order = first-in_order;
      before = first-below;
      short = subst (λ (l : Keys). length l ≤ most) (sym own.taken) (short most own.sorted);
      full = full;
    }
      where
        short : (n : ℕ) (keys : Keys) → length (take n keys) ≤ n
        short zero keys = omega arith
        short (suc n) [] = omega arith
        short (suc n) (e ∷ keys) = omega (arith, short n keys)

        full : length first < most → left ++ h.gone ≡ []
        full few = by last h.enough h.behind
          where
            fewer : length held < most
            fewer = ⊎_elim (λ less. less)
                (λ many. absurd (omega (arith, few, first-length many)))
                (cases_lt (length held) most)

            none_left : left ≡ []
            none_left = past most own.sorted
                (omega (arith, fewer, length_permutation held own.sorted own.moved))
              where
                past : (n : ℕ) (keys : Keys) → length keys ≤ n → drop n keys ≡ []
                past zero [] h = refl
                past zero (e ∷ keys) h = absurd (omega (arith, h))
                past (suc n) [] h = refl
                past (suc n) (e ∷ keys) h = past n keys (omega (arith, h))

            by : (o : Option (List ℕ)) → IfSome o (λ key. most ≤ count_by (within key) held)
                → AllByRecursion (λ e. stays_out o e.0 ≡ true) h.gone → left ++ h.gone ≡ []
            by None enough behind =
                ap (λ (l : Keys). l ++ h.gone) none_left ∙ nothing h.gone behind
              where
                nothing : (gone : Keys) → AllByRecursion (λ e. false ≡ true) gone → gone ≡ []
                nothing [] h = refl
                nothing (e ∷ gone) h = absurd (false≢true h.0)
            by (Some key) enough behind = absurd (omega (
              arith,
              fewer,
              enough,
              count_by-le-length (within key) held,
            ))

-- a key is held more, and others may be let go
pub holds_taken : (most : ℕ) (held : Keys) (last : Option (List ℕ)) (e : Entry)
    → HoldsOn most held last e (held ++ e ∷ []) last
holds_taken most held last e = λ all rest once h. held_taken most all held last e rest h

pub holds_cut : (most : ℕ) (held : Keys) (last : Option (List ℕ)) (e : Entry) (first : Keys)
    (later : Option (List ℕ)) → most ≤ length (held ++ e ∷ []) → IsCut most (held ++ e ∷ []) first
    → IsLastOf later first → HoldsOn most held last e first later
holds_cut most held last e first later many cut is = λ all rest once h.
    held_cut most all (held ++ e ∷ []) last rest once (held_taken most all held last e rest h)
    first cut later many is

-- a key that is held if it is sought
module _ (sought : Entry → Bool) (most : ℕ) (held : Keys) (last : Option (List ℕ)) (e : Entry) where
  pub seeks_out : stays_out last e.0 ≡ true → SeeksOn sought most held last e held last
  seeks_out out = λ all rest once h. by (sought e) all (filter sought rest) h
    where
      by : (b : Bool) (all rest : Keys) → AreHeld most all held last (cond b (e ∷ rest) rest)
          → AreHeld most all held last rest
      by true all rest h = held_gone most all held last e rest out h
      by false all rest h = h

  pub seeks_taken : (first : Keys) (later : Option (List ℕ)) → sought e ≡ true
      → HoldsOn most held last e first later → SeeksOn sought most held last e first later
  seeks_taken first later is holds = λ all rest once h. holds all (filter sought rest) once
      (subst (λ (b : Bool). AreHeld most all held last
      (cond b (e ∷ filter sought rest) (filter sought rest))) is h)

-- of no keys the first are none
pub first_none : (most : ℕ) → AreFirst most [] []
unfolding IsStrictlySortedBy
first_none most = record {
  others = [];
  moved = IsPermutation-refl [];
  in_order = tt;
  before = tt;
  short = omega arith;
  full = λ few. refl;
}

-- the first none of some keys
pub none_first : (most : ℕ) (all : Keys) → most ≡ 0 → AreFirst most all []
unfolding IsStrictlySortedBy
none_first most all none = record {
  others = all;
  moved = IsPermutation-refl all;
  in_order = tt;
  before = all-any (λ (o : Entry). Unit {0}) (λ o. tt) all;
  short = omega arith;
  full = λ few. absurd (omega (arith, few, none));
}
