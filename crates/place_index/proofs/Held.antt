-- What lies in places, as the slots change.
use Rattle.std.proofs.Common.{◌≡◌, ℕ, zero, suc, ◌+◌, ◌<◌, List, [], ◌∷◌, ◌++◌, length, map}
use Rattle.std.proofs.Common.{Some, None, Option, Bool, true, false, if◌then◌else◌}
use Rattle.std.proofs.Common.{refl, ap, sym, ◌∙◌, arith, slice_get, Ordering}
use Rattle.std.proofs.lemmas.List.{set-get_or, length-map}
use Rattle.std.proofs.lemmas.List.FromFn.{length-enumerate_from}
use Rattle.std.proofs.lemmas.Option.{none-some, same_Some}
use Rattle.std.specs.Borrow.{Bor}
use Rattle.std.specs.Cmp.{IsEquivalence}
use Rattle.std.specs.List.{enumerate_from}
use Rattle.std.specs.Option.{option_copied, option_map}
use Rattle.std.specs.Ordering.{is_eq}
use Rattle.std.specs.Prelude.{◌≢◌, slice_set, is_some}
use Rattle.std.specs.declared.cmp.Ordering.TheVariants.{Less, Equal, Greater}
use Rattle.place_index.specs.Places.{item_at, key_at, laid}
use Rattle.place_index.specs.Slots.{is_empty_at, held_in, held}
use Rattle.place_index.specs.declared.slots.Slot.{Slot}
use Rattle.place_index.specs.declared.slots.Slots.{Slots}

-- what lies in each place, where the first has this number
abbrev pub held_from : {K V : Type 0} → (K → Bool) → Option ℕ → ℕ → List (Slot K V)
    → List (Option (K × V))
held_from b own n slots = map (held_in b own) (enumerate_from n slots)

pub length-held : {K V : Type 0} (b : K → Bool) (own : Option ℕ) (n : ℕ) (slots : List (Slot K V))
    → length (held_from b own n slots) ≡ length slots
length-held {K} {V} b own n slots =
    length-map (enumerate_from n slots) (held_in b own) ∙ length-enumerate_from n slots

pub read_from : {K V : Type 0} (b : K → Bool) (own : Option ℕ) (n m at : ℕ)
    (slots : List (Slot K V)) (s : Slot K V) → m ≡ n + at → slice_get slots at ≡ Some s
    → item_at (held_from b own n slots) at ≡ held_in b own (m, s)
read_from b own n m at [] s e is = absurd (none-some s is)
read_from {K} {V} b own n m zero (t ∷ slots) s e is =
    let same : n ≡ m = omega (arith, e) in
    ap (λ (k : ℕ). held_in b own (k, t)) same
    ∙ ap (λ (r : Slot K V). held_in b own (m, r)) (same_Some t s is)
read_from b own n m (suc at) (t ∷ slots) s e is =
    read_from b own (n + 1) m at slots s (omega (arith, e)) is

pub none_from : {K V : Type 0} (b : K → Bool) (own : Option ℕ) (n at : ℕ) (slots : List (Slot K V))
    → slice_get slots at ≡ None → item_at (held_from b own n slots) at ≡ None
none_from b own n zero [] is = refl
none_from b own n (suc at) [] is = refl
none_from b own n zero (t ∷ slots) is = absurd (none-some t (sym is))
none_from b own n (suc at) (t ∷ slots) is = none_from b own (n + 1) at slots is

pub read_item : {K V : Type 0} (b : K → Bool) (s : Slots K V) (at : ℕ) (slot : Slot K V)
    → slice_get s.slots.items at ≡ Some slot → item_at (held b s) at ≡ held_in b s.own (at, slot)
read_item {K} {V} b s at slot is =
    read_from b s.own 0 at at s.slots.items slot (omega arith) is

pub no_item : {K V : Type 0} (b : K → Bool) (s : Slots K V) (at : ℕ)
    → slice_get s.slots.items at ≡ None → item_at (held b s) at ≡ None
no_item {K} {V} b s at is = none_from b s.own 0 at s.slots.items is

-- what lies in a slot, empty or not
abbrev pub item_of : {K V : Type 0} → Slot K V → K × V
item_of slot = (slot.key, slot.value)

pub read_empty : {K V : Type 0} (b : K → Bool) (s : Slots K V) (at : ℕ) (slot : Slot K V)
    → is_empty_at b s.own at slot.key ≡ true → slice_get s.slots.items at ≡ Some slot
    → None ≡ item_at (held b s) at
read_empty {K} {V} b s at slot empty is =
    sym (read_item b s at slot is
    ∙ ap (λ (e : Bool). if e then None else Some (item_of slot)) empty)

pub read_filled : {K V : Type 0} (b : K → Bool) (s : Slots K V) (at : ℕ) (slot : Slot K V)
    → is_empty_at b s.own at slot.key ≡ false → slice_get s.slots.items at ≡ Some slot
    → Some (slot.key, slot.value) ≡ item_at (held b s) at
read_filled {K} {V} b s at slot filled is =
    sym (read_item b s at slot is
    ∙ ap (λ (e : Bool). if e then None else Some (item_of slot)) filled)

-- where a key was seen in a place, its slot has what lies there
pub read_seen : {K V : Type 0} (b : K → Bool) (s : Slots K V) (at : ℕ) (slot : Slot K V)
    (seen : Option (Bor K)) → slice_get s.slots.items at ≡ Some slot
    → option_copied seen ≡ key_at (held b s) at → is_some seen ≡ true
    → Some (slot.key, slot.value) ≡ item_at (held b s) at
read_seen {K} {V} b s at slot None is key some = absurd (cc)
read_seen {K} {V} b s at slot (Some own) is key some =
    by (is_empty_at b s.own at slot.key) refl
  where
    by : (e : Bool) → is_empty_at b s.own at slot.key ≡ e
        → Some (slot.key, slot.value) ≡ item_at (held b s) at
    by false filled = read_filled b s at slot filled is
    by true empty =
        absurd (none-some own.now
        (ap (option_map (λ (i : K × V). i.0)) (read_empty b s at slot empty is) ∙ sym key))

-- all but one of the places are as empty as they were
abbrev pub AreElsewhere : {K V : Type 0} → (K → Bool) → Option ℕ → Option ℕ → ℕ → ℕ
    → List (Slot K V) → Type 0
AreElsewhere {K} {V} b own later here n slots =
    (q m : ℕ) (t : Slot K V) → m ≡ n + q → (m ≡ here → ⊥) → slice_get slots q ≡ Some t
    → held_in b later (m, t) ≡ held_in b own (m, t)

below : {K V : Type 0} (b : K → Bool) (own later : Option ℕ) (here n : ℕ) (t : Slot K V)
    (slots : List (Slot K V)) → AreElsewhere b own later here n (t ∷ slots)
    → AreElsewhere b own later here (n + 1) slots
below b own later here n t slots elsewhere =
    λ q m s e apart is. elsewhere (suc q) m s (omega (arith, e)) apart is

same_from : {K V : Type 0} (b : K → Bool) (own later : Option ℕ) (here n : ℕ)
    (slots : List (Slot K V)) → here < n → AreElsewhere b own later here n slots
    → held_from b later n slots ≡ held_from b own n slots
same_from b own later here n [] past elsewhere = refl
same_from {K} {V} b own later here n (t ∷ slots) past elsewhere =
    ap (λ (i : Option (K × V)). i ∷ held_from b later (n + 1) slots)
    (elsewhere zero n t (omega arith) (λ e. absurd (omega (arith, e))) refl)
    ∙ ap (λ (l : List (Option (K × V))). held_in b own (n, t) ∷ l)
    (same_from b own later here (n + 1) slots (omega arith)
    (below b own later here n t slots elsewhere))

pub set_from : {K V : Type 0} (b : K → Bool) (own later : Option ℕ) (here n at : ℕ)
    (slots : List (Slot K V)) (s : Slot K V) → here ≡ n + at
    → AreElsewhere b own later here n slots
    → held_from b later n (slice_set slots at s)
    ≡ slice_set (held_from b own n slots) at (held_in b later (here, s))
set_from b own later here n zero [] s e elsewhere = refl
set_from b own later here n (suc at) [] s e elsewhere = refl
set_from {K} {V} b own later here n zero (t ∷ slots) s e elsewhere =
    let same : n ≡ here = omega (arith, e) in
    ap (λ (k : ℕ). held_in b later (k, s) ∷ held_from b later (n + 1) slots) same
    ∙ ap (λ (l : List (Option (K × V))). held_in b later (here, s) ∷ l)
    (same_from b own later here (n + 1) slots (omega (arith, e))
    (below b own later here n t slots elsewhere))
set_from {K} {V} b own later here n (suc at) (t ∷ slots) s e elsewhere =
    ap (λ (i : Option (K × V)). i ∷ held_from b later (n + 1) (slice_set slots at s))
    (elsewhere zero n t (omega arith) (λ f. absurd (omega (arith, e, f))) refl)
    ∙ ap (λ (l : List (Option (K × V))). held_in b own (n, t) ∷ l)
    (set_from b own later here (n + 1) at slots s (omega (arith, e))
    (below b own later here n t slots elsewhere))

pub push_from : {K V : Type 0} (b : K → Bool) (own later : Option ℕ) (here n at : ℕ)
    (slots : List (Slot K V)) (s : Slot K V) → here ≡ n + at → at ≡ length slots
    → AreElsewhere b own later here n slots
    → held_from b later n (slots ++ s ∷ [])
    ≡ laid (held_from b own n slots) at (held_in b later (here, s))
push_from {K} {V} b own later here n zero [] s e len elsewhere =
    let same : n ≡ here = omega (arith, e) in
    ap (λ (k : ℕ). held_in b later (k, s) ∷ []) same
push_from b own later here n (suc at) [] s e len elsewhere = absurd (omega (arith, len))
push_from b own later here n zero (t ∷ slots) s e len elsewhere = absurd (omega (arith, len))
push_from {K} {V} b own later here n (suc at) (t ∷ slots) s e len elsewhere =
    ap (λ (i : Option (K × V)). i ∷ held_from b later (n + 1) (slots ++ s ∷ []))
    (elsewhere zero n t (omega arith) (λ f. absurd (omega (arith, e, f))) refl)
    ∙ ap (λ (l : List (Option (K × V))). held_in b own (n, t) ∷ l)
    (push_from b own later here (n + 1) at slots s (omega (arith, e)) (omega (arith, len))
    (below b own later here n t slots elsewhere))

pub laid-set : {X : Type 0} (places : List X) (at : ℕ) (x : X) → at < length places
    → slice_set places at x ≡ laid places at x
laid-set [] at x within = absurd (omega arith)
laid-set (y ∷ places) zero x within = refl
laid-set {X} (y ∷ places) (suc at) x within =
    ap (λ (l : List X). y ∷ l) (laid-set places at x (omega arith))

-- what is emptied and was empty stays as it was
pub empty_again : {K V : Type 0} (places : List (Option (K × V))) (at : ℕ)
    → item_at places at ≡ None → places ≡ slice_set places at None
empty_again places at is =
    sym (ap (λ x. slice_set places at x) (sym is) ∙ set-get_or places at None)

pub equal_from : (o : Ordering) → is_eq o ≡ true → o ≡ Equal
equal_from Less is = absurd (cc)
equal_from Equal is = refl
equal_from Greater is = absurd (cc)

pub same_if_equal : {K : Type 0} (eq : K → K → Bool) (cmp : K → K → Ordering)
    → ((x y : K) → eq x y ≡ is_eq (cmp x y)) → ((x y : K) → cmp x y ≡ Equal → x ≡ y)
    → (a b : K) → eq a b ≡ true → a ≡ b
same_if_equal eq cmp matches exact a b is =
    exact a b (equal_from (cmp a b) (sym (matches a b) ∙ is))

pub other_if_unequal : {K : Type 0} (eq : K → K → Bool) → IsEquivalence eq
    → (a b : K) → eq a b ≡ false → a ≢ b
other_if_unequal eq laws a b is same =
    let e : eq a b ≡ true = ap (λ x. eq a x) (sym same) ∙ laws.refl a in absurd (cc)
