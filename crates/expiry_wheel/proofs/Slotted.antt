-- The entries of slots: in order, and where an edit or a search at one moment stands.
use Rattle.std.proofs.Common.{◌≡◌, ℕ, zero, suc, ◌+◌, ◌≢◌, ◌<◌, ◌≤◌, Bool, true, false, cond, List}
use Rattle.std.proofs.Common.{[], ◌∷◌, ◌++◌, length, refl, ap, sym, ◌∙◌, subst, arith, append_assoc}
use Rattle.std.proofs.Common.{inl, inr}
use Rattle.std.specs.Prelude.{Some, None, slice_set, slice_index_or, take, drop, ◌==◌, nat_le}
use Rattle.std.proofs.Common.{length-take}
use Rattle.std.proofs.lemmas.List.{get_or-take, get_or-set_same, get_or-set_other, length-set}
use Rattle.std.proofs.lemmas.Bool.{cases_eq, ne_eqb}
use Rattle.std.proofs.lemmas.Bool.Decides.{nat_tests}
use Rattle.std.specs.declared.cmp.Ordering.{Ordering}
use Rattle.std.specs.declared.cmp.Ordering.TheVariants.{Less, Equal, Greater}
use Rattle.std.specs.Cmp.{IsTotalOrder}
use Rattle.std.specs.Ordering.{is_lt, match_ordering}
use Rattle.std.specs.List.{AllByRecursion, list_any}
use Rattle.std.specs.List.Sorted.{IsStrictlySortedBy}
use Rattle.std.specs.BTreeSet.{insert_key}
use Rattle.std.specs.Set.{remove_key}
use Rattle.expiry_wheel.specs.Entries.{entry_cmp, IsInOrder, has_entry, with_entry, without_entry}
use Rattle.expiry_wheel.specs.Entries.{first_moment, first_due, without_due, first_above}
use Rattle.expiry_wheel.specs.Items.{first_item}
use Rattle.expiry_wheel.specs.Marks.{mark_of, AreUnmarked, IsFirstMarked, AreMarked}
use Rattle.expiry_wheel.specs.Slots.{slot_of, entries_in, AreSlotted, IsWheel, SpansEntries}
use Rattle.expiry_wheel.specs.Slots.{IsFirstOccupied}
use Rattle.expiry_wheel.proofs.Lists.{all-append, all-imply, insert-front, insert-back}
use Rattle.expiry_wheel.proofs.Lists.{remove-front, remove-back, any-front, any-back, find-front}
use Rattle.expiry_wheel.proofs.Lists.{find-first, find-append_found, find-append_none}
use Rattle.expiry_wheel.proofs.Lists.{sorted-append}
use Rattle.expiry_wheel.proofs.Grouped.{earlier, before_moments, after_moments}
use Rattle.expiry_wheel.proofs.Turning.{earlier_slot, slots_rise, slots_stay}

-- ---- edits keep order, and what holds of all

module _ {X : Type 0} (c : X → X → Ordering) where
  pub all-insert_key : (P : X → Type 0) (xs : List X) (x : X) → AllByRecursion P xs → P x
      → AllByRecursion P (insert_key c xs x)
  all-insert_key P [] x h p = (p, tt)
  all-insert_key P (y ∷ xs) x h p =
      elim (c x y) as (λ o. AllByRecursion P
      (match_ordering o (x ∷ y ∷ xs) (y ∷ xs) (y ∷ insert_key c xs x))) [
        | Less ↦ (p, h)
        | Equal ↦ h
        | Greater ↦ (h.0, all-insert_key P xs x h.1 p)
      ]

  pub sorted-insert_key : IsTotalOrder c → (xs : List X) (x : X) → IsStrictlySortedBy c xs
      → IsStrictlySortedBy c (insert_key c xs x)
  unfolding IsStrictlySortedBy
  sorted-insert_key o [] x h = (tt, tt)
  sorted-insert_key o (y ∷ xs) x h = go (c x y) refl (sorted-insert_key o xs x h.1)
    where
      go : (r : Ordering) → c x y ≡ r → IsStrictlySortedBy c (insert_key c xs x)
          → IsStrictlySortedBy c (match_ordering r (x ∷ y ∷ xs) (y ∷ xs) (y ∷ insert_key c xs x))
      go Less e k = (
        (
          e,
          all-imply (λ z. c y z ≡ Less) (λ z. c x z ≡ Less)
              (λ z l. o.trans x y z e l) xs h.0,
        ),
        h,
      )
      go Equal e k = h
      go Greater e k = (
        all-insert_key (λ z. c y z ≡ Less) xs x h.0 (rw (o.antisymm y x, e) refl),
        k,
      )

module _ {X : Type 0} (test : X → Bool) where
  pub all-remove_key : (P : X → Type 0) (xs : List X) → AllByRecursion P xs
      → AllByRecursion P (remove_key test xs)
  all-remove_key P [] h = tt
  all-remove_key P (x ∷ xs) h = elim (test x) as
      (λ b. AllByRecursion P (cond b xs (x ∷ remove_key test xs))) [
        | true ↦ h.1
        | false ↦ (h.0, all-remove_key P xs h.1)
      ]

  pub sorted-remove_key : (c : X → X → Ordering) (xs : List X) → IsStrictlySortedBy c xs
      → IsStrictlySortedBy c (remove_key test xs)
  unfolding IsStrictlySortedBy
  sorted-remove_key c [] h = tt
  sorted-remove_key c (x ∷ xs) h =
      elim (test x) as (λ b. IsStrictlySortedBy c (cond b xs (x ∷ remove_key test xs))) [
        | true ↦ h.1
        | false ↦ (all-remove_key (λ y. c x y ≡ Less) xs h.0, sorted-remove_key c xs h.1)
      ]

-- ---- one slot among all

-- a slot, with those before it and after it
pub record Opened {X : Type 0} (slots : List (List X)) (k : ℕ) : Type 0 where
  pub before : List (List X)
  pub here : List X
  pub after : List (List X)
  pub is : slots ≡ before ++ here ∷ after
  pub place : length before ≡ k
  pub read : (d : List X) → slice_index_or slots k d ≡ here
  pub written : (w : List X) → slice_set slots k w ≡ before ++ w ∷ after
  pub taken : take k slots ≡ before
  pub dropped : drop (suc k) slots ≡ after

module _ {X : Type 0} where
  pub opened : (slots : List (List X)) (k : ℕ) → k < length slots → Opened slots k
  opened [] k h = absurd (omega arith)
  opened (s ∷ slots) zero h = record {
    before = [];
    here = s;
    after = slots;
    is = refl;
    place =
        refl;
    read = λ d. refl;
    written = λ w. refl;
    taken = refl;
    dropped = refl;
  }
  opened (s ∷ slots) (suc k) h =
      let o = opened slots k (omega arith) in
      record {
        before = s ∷ o.before;
        here = o.here;
        after = o.after;
        is = ap (λ l. s ∷ l) o.is;
        place = omega (arith, o.place);
        read = λ d. o.read d;
        written = λ w. ap (λ l. s ∷ l) (o.written w);
        taken = ap (λ l. s ∷ l) o.taken;
        dropped = o.dropped;
      }

module _ {T : Type 0} (cmp : T → T → Ordering) (now end : ℕ) where
  pub entries_in-append : (xs ys : List (List (ℕ × T))) → entries_in (xs ++ ys) ≡ entries_in xs
      ++ entries_in ys
  entries_in-append [] ys = refl
  entries_in-append (x ∷ xs) ys = ap (λ l. x ++ l) (entries_in-append xs ys)
      ∙ sym (append_assoc x (entries_in xs) (entries_in ys))

  pub slotted-left : (k : ℕ) (xs ys : List (List (ℕ × T))) → AreSlotted cmp now end k (xs ++ ys)
      → AreSlotted cmp now end k xs
  slotted-left k [] ys h = tt
  slotted-left k (x ∷ xs) ys h = (h.0, h.1, slotted-left (suc k) xs ys h.2)

  pub slotted-right : (k j : ℕ) (xs ys : List (List (ℕ × T))) → j ≡ k + length xs
      → AreSlotted cmp now end k (xs ++ ys) → AreSlotted cmp now end j ys
  slotted-right k j [] ys e h = subst (λ n. AreSlotted cmp now end n ys) (omega arith) h
  slotted-right k j (x ∷ xs) ys e h = slotted-right (suc k) j xs ys (omega arith) h.2

  pub slotted-append : (k j : ℕ) (xs ys : List (List (ℕ × T))) → j ≡ k + length xs
      → AreSlotted cmp now end k xs → AreSlotted cmp now end j ys
      → AreSlotted cmp now end k (xs ++ ys)
  slotted-append k j [] ys e h l = subst (λ n. AreSlotted cmp now end n ys) (omega arith) l
  slotted-append k j (x ∷ xs) ys e h l =
      (h.0, h.1, slotted-append (suc k) j xs ys (omega arith) h.2 l)

  -- entries of slots from k on, and of slots before j
  pub from_slot : (k : ℕ) (xs : List (List (ℕ × T))) → AreSlotted cmp now end k xs
      → AllByRecursion (λ e. (end < e.0) × (k ≤ slot_of 7 now e.0)) (entries_in xs)
  from_slot k [] h = tt
  from_slot k (x ∷ xs) h =
      all-append (λ e. (end < e.0) × (k ≤ slot_of 7 now e.0)) x (entries_in xs)
      (all-imply (λ e. (end < e.0) × (slot_of 7 now e.0 ≡ k)) (λ e. (end < e.0)
      × (k ≤ slot_of 7 now e.0)) (λ e p. (p.0, omega (arith, p.1))) x h.1)
      (all-imply (λ e. (end < e.0) × (suc k ≤ slot_of 7 now e.0)) (λ e. (end < e.0)
      × (k ≤ slot_of 7 now e.0)) (λ e p. (p.0, omega (arith, p.1))) (entries_in xs)
      (from_slot (suc k) xs h.2))

  pub up_to_slot : (k j : ℕ) (xs : List (List (ℕ × T))) → k + length xs ≤ j
      → AreSlotted cmp now end k xs → AllByRecursion (λ e. (end < e.0) × (slot_of 7 now e.0 < j))
      (entries_in xs)
  up_to_slot k j [] b h = tt
  up_to_slot k j (x ∷ xs) b h =
      all-append (λ e. (end < e.0) × (slot_of 7 now e.0 < j)) x (entries_in xs)
      (all-imply (λ e. (end < e.0) × (slot_of 7 now e.0 ≡ k)) (λ e. (end < e.0)
      × (slot_of 7 now e.0 < j)) (λ e p. (p.0, omega (arith, p.1))) x h.1)
      (up_to_slot (suc k) j xs (omega arith) h.2)

  -- all the entries of slots ascend
  pub sorted-entries_in : now ≤ end → (k : ℕ) (xs : List (List (ℕ × T)))
      → AreSlotted cmp now end k xs → IsInOrder cmp (entries_in xs)
  unfolding IsStrictlySortedBy
  sorted-entries_in c k [] h = tt
  sorted-entries_in c k (x ∷ xs) h = sorted-append (entry_cmp cmp) x (entries_in xs) h.0
      (sorted-entries_in c (suc k) xs h.2) (each x h.1)
    where
      each : (es : List (ℕ × T)) → AllByRecursion (λ e. (end < e.0) × (slot_of 7 now e.0 ≡ k)) es
          → AllByRecursion (λ e. AllByRecursion (λ d. entry_cmp cmp e d ≡ Less) (entries_in xs)) es
      each [] l = tt
      each (e ∷ es) l = (
        before_moments cmp e (entries_in xs)
            (all-imply (λ d. (end < d.0) × (suc k ≤ slot_of 7 now d.0)) (λ d. e.0 < d.0)
            (λ d p. earlier_slot 7 now e.0 d.0 (omega (arith, p.0)) (omega (arith, p.1, l.0.1)))
            (entries_in xs) (from_slot (suc k) xs h.2)),
        each es l.1,
      )

-- ---- slots seen from another moment

pub all_both : {X : Type 0} (P Q R : X → Type 0) → ((x : X) → P x → Q x → R x) → (xs : List X)
    → AllByRecursion P xs → AllByRecursion Q xs → AllByRecursion R xs
all_both P Q R f [] h k = tt
all_both P Q R f (x ∷ xs) h k = (f x h.0 k.0, all_both P Q R f xs h.1 k.1)

pub none_all : {X : Type 0} (P : X → Type 0) → ((x : X) → P x → ⊥) → (xs : List X)
    → AllByRecursion P xs → xs ≡ []
none_all P never [] h = refl
none_all P never (x ∷ xs) h = absurd (never x h.0)

pub first_holds : {T : Type 0} (P : ℕ → Type 0) (n : ℕ) (es : List (ℕ × T))
    → AllByRecursion (λ e. P e.0) es → first_moment es ≡ Some n → P n
first_holds P n [] h e = cc
first_holds P n (d ∷ es) h e = let same : d.0 ≡ n = cc in subst P same h.0

pub any_holds : {T : Type 0} (P : ℕ → Type 0) (n : ℕ) (es : List (ℕ × T))
    → AllByRecursion (λ e. P e.0) es → list_any (λ e. e.0 == n) es ≡ true → P n
any_holds P n [] h e = cc
any_holds P n (d ∷ es) h e = elim (cases_eq d.0 n) [
  | inl same ↦ subst P same h.0
  | inr apart ↦ any_holds P n es h.1 (rw (ne_eqb d.0 n apart) at e)
]

module _ {T : Type 0} (cmp : T → T → Ordering) where
  ends_earlier : (now end earlier : ℕ) → earlier ≤ end → (k : ℕ) (xs : List (List (ℕ × T)))
      → AreSlotted cmp now end k xs → AreSlotted cmp now earlier k xs
  ends_earlier now end earlier le k [] h = tt
  ends_earlier now end earlier le k (x ∷ xs) h = (
    h.0,
    all-imply (λ e. (end < e.0) × (slot_of 7 now e.0 ≡ k)) (λ e. (earlier < e.0)
        × (slot_of 7 now e.0 ≡ k)) (λ e p. (omega (arith, p.0), p.1)) x h.1,
    ends_earlier now end earlier le (suc k) xs h.2,
  )

  slotted_none : (now end k : ℕ) (xs : List (List (ℕ × T))) → entries_in xs ≡ []
      → AreSlotted cmp now end k xs
  unfolding IsStrictlySortedBy
  slotted_none now end k [] e = tt
  slotted_none now end k ([] ∷ xs) e = (tt, tt, slotted_none now end (suc k) xs e)
  slotted_none now end k ((y ∷ ys) ∷ xs) e = cc

  turns : (now end first last k : ℕ) → now ≤ first → now ≤ end → slot_of 7 now first ≡ k
      → slot_of 7 now last ≡ k → first ≤ last → (j : ℕ) → k < j → (xs : List (List (ℕ × T)))
      → AreSlotted cmp now end j xs → AreSlotted cmp first last j xs
  turns now end first last k a b f l s j lt [] h = tt
  turns now end first last k a b f l s j lt (x ∷ xs) h = (
    h.0,
    all-imply (λ e. (end < e.0) × (slot_of 7 now e.0 ≡ j)) (λ e. (last < e.0)
        × (slot_of 7 first e.0 ≡ j))
        (λ e p.
        let beyond : last < e.0 = earlier_slot 7 now last e.0 (omega (arith, p.0))
        (omega (arith, p.1)) in
        (beyond, slots_stay 7 now first e.0 a (omega arith) (omega (arith, p.1)) ∙ p.1)) x h.1,
    turns now end first last k a b f l s (suc j) (omega arith) xs h.2,
  )

-- ---- edits and searches of a wheel, at a moment that is near

module _ {T : Type 0} (cmp : T → T → Ordering) (now end : ℕ) (near : List (ℕ × T))
    (slots : List (List (ℕ × T))) (w : IsWheel cmp now end near slots) where
  beyond_end : AllByRecursion (λ e. end < e.0) (entries_in slots)
  beyond_end = all-imply (λ e. (end < e.0) × (0 ≤ slot_of 7 now e.0)) (λ e. end < e.0) (λ e p. p.0)
      (entries_in slots) (from_slot cmp now end 0 slots w.slotted)

  -- the whole is in order
  pub wheel_in_order : IsInOrder cmp (near ++ entries_in slots)
  wheel_in_order = sorted-append (entry_cmp cmp) near (entries_in slots) w.ordered
      (sorted-entries_in cmp now end w.counted 0 slots w.slotted) (each near w.until)
    where
      each : (es : List (ℕ × T)) → AllByRecursion (λ e. e.0 ≤ end) es
          → AllByRecursion (λ e. AllByRecursion (λ d. entry_cmp cmp e d ≡ Less) (entries_in slots))
          es
      each [] l = tt
      each (e ∷ es) l = (
        before_moments cmp e (entries_in slots)
            (all-imply (λ d. end < d.0) (λ d. e.0 < d.0) (λ d p. omega (arith, p, l.0))
            (entries_in slots) beyond_end),
        each es l.1,
      )

  pub wheel_near : (other : List (ℕ × T)) → IsInOrder cmp other
      → AllByRecursion (λ e. e.0 ≤ end) other → IsWheel cmp now end other slots
  wheel_near other h k = record {
    counted = w.counted;
    complete = w.complete;
    ordered = h;
    until =
        k;
    slotted = w.slotted;
  }

  module _ (at : ℕ) (x : T) (h : at ≤ end) where
    rest_later : AllByRecursion (λ e. entry_cmp cmp (at, x) e ≡ Less) (entries_in slots)
    rest_later = before_moments cmp (at, x) (entries_in slots)
        (all-imply (λ d. end < d.0) (λ d. at < d.0) (λ d p. omega (arith, p))
        (entries_in slots) beyond_end)

    pub with_near : with_entry cmp (near ++ entries_in slots) (at, x) ≡ with_entry cmp near (at, x)
        ++ entries_in slots
    with_near = insert-back (entry_cmp cmp) (at, x) near (entries_in slots) rest_later

    pub without_near : without_entry cmp (near ++ entries_in slots) (at, x) ≡ without_entry cmp near
        (at, x) ++ entries_in slots
    without_near = remove-back (entry_cmp cmp) (at, x) near (entries_in slots) rest_later

    pub has_near : has_entry cmp (near ++ entries_in slots) (at, x) ≡ has_entry cmp near (at, x)
    has_near = any-back (entry_cmp cmp) (at, x) near (entries_in slots) rest_later

    pub above_near : (next : ℕ × T) → first_above cmp (Some (at, x)) near ≡ Some next
        → first_above cmp (Some (at, x)) (near ++ entries_in slots) ≡ Some next
    above_near next e = find-append_found (λ d. is_lt (entry_cmp cmp (at, x) d)) near
        (entries_in slots) next e

    pub above_near_none : first_above cmp (Some (at, x)) near ≡ None
        → first_above cmp (Some (at, x)) (near ++ entries_in slots) ≡ first_item (entries_in slots)
    above_near_none e = find-append_none (λ d. is_lt (entry_cmp cmp (at, x) d)) near
        (entries_in slots) e ∙ find-first (entry_cmp cmp) (at, x) (entries_in slots) rest_later

-- ---- the same at a moment that has a slot

module _ {T : Type 0} (cmp : T → T → Ordering) (now end : ℕ) (near : List (ℕ × T))
    (slots : List (List (ℕ × T))) (w : IsWheel cmp now end near slots) (k : ℕ)
    (o : Opened slots k) where
  parts : AreSlotted cmp now end 0 (o.before ++ o.here ∷ o.after)
  parts = subst (AreSlotted cmp now end 0) o.is w.slotted

  here_on : AreSlotted cmp now end k (o.here ∷ o.after)
  here_on = slotted-right cmp now end 0 k o.before (o.here ∷ o.after) (omega (arith, o.place)) parts

  pub here_ordered : IsInOrder cmp o.here
  here_ordered = here_on.0

  pub here_slotted : AllByRecursion (λ e. (end < e.0) × (slot_of 7 now e.0 ≡ k)) o.here
  here_slotted = here_on.1

  -- another set of entries for the slot
  pub slotted_written : (other : List (ℕ × T)) → IsInOrder cmp other
      → AllByRecursion (λ e. (end < e.0) × (slot_of 7 now e.0 ≡ k)) other
      → AreSlotted cmp now end 0 (slice_set slots k other)
  slotted_written other h l =
      rw (o.written other) (slotted-append cmp now end 0 k o.before (other ∷ o.after)
      (omega (arith, o.place)) (slotted-left cmp now end 0 o.before (o.here ∷ o.after) parts)
      (h, l, here_on.2))

  pub length_written : (other : List (ℕ × T)) → length (slice_set slots k other) ≡ length slots
  length_written other = ap length (o.written other) ∙ same o.before ∙ sym (ap length o.is)
    where
      same : (front : List (List (ℕ × T))) → length (front ++ other ∷ o.after)
          ≡ length (front ++ o.here ∷ o.after)
      same [] = omega arith
      same (s ∷ front) = omega (arith, same front)

  pub wheel_written : (other : List (ℕ × T)) → IsInOrder cmp other
      → AllByRecursion (λ e. (end < e.0) × (slot_of 7 now e.0 ≡ k)) other
      → IsWheel cmp now end near (slice_set slots k other)
  wheel_written other h l = record {
    counted = w.counted;
    complete = length_written other
        ∙ w.complete;
    ordered = w.ordered;
    until = w.until;
    slotted = slotted_written other h l;
  }

  -- other entries for the slot, where what is near ends earlier
  pub slotted_other : (earlier : ℕ) → earlier ≤ end → (other : List (ℕ × T)) → IsInOrder cmp other
      → AllByRecursion (λ e. (earlier < e.0) × (slot_of 7 now e.0 ≡ k)) other
      → AreSlotted cmp now earlier 0 (slice_set slots k other)
  slotted_other earlier le other h l =
      rw (o.written other) (slotted-append cmp now earlier 0 k o.before (other ∷ o.after)
      (omega (arith, o.place))
      (ends_earlier cmp now end earlier le 0 o.before
      (slotted-left cmp now end 0 o.before (o.here ∷ o.after) parts)) (
        h,
        l,
        ends_earlier cmp now end earlier le (suc k) o.after here_on.2,
      ))

  -- no slot before that of the last near moment holds entries
  pub none_before_end : slot_of 7 now end ≡ k → entries_in o.before ≡ []
  none_before_end s = none_all (λ e. (end < e.0) × (slot_of 7 now e.0 < k))
      (λ e p. omega (arith, p.1, slots_rise 7 now end e.0 w.counted (omega (arith, p.0))))
      (entries_in o.before)
      (up_to_slot cmp now end 0 k o.before (omega (arith, o.place))
      (slotted-left cmp now end 0 o.before (o.here ∷ o.after) parts))

  -- the slots as a wheel that has turned to this one sees them
  pub slotted_turned : (first last : ℕ) → SpansEntries o.here (first, last)
      → entries_in o.before ≡ [] → AreSlotted cmp first last 0 (slice_set slots k [])
  unfolding IsStrictlySortedBy
  slotted_turned first last spans none =
      let first_in : (end < first) × (slot_of 7 now first ≡ k) =
      first_holds (λ n. (end < n) × (slot_of 7 now n ≡ k)) first o.here here_on.1 spans.first in
      let last_in : (end < last) × (slot_of 7 now last ≡ k) =
      any_holds (λ n. (end < n) × (slot_of 7 now n ≡ k)) last o.here here_on.1 spans.last in
      rw (o.written []) (slotted-append cmp first last 0 k o.before ([] ∷ o.after)
      (omega (arith, o.place))
      (slotted_none cmp first last 0 o.before none) (
        tt,
        tt,
        turns cmp now end first last k (omega (arith, first_in.0, w.counted))
            (omega (arith, w.counted)) first_in.1 last_in.1
            (first_holds (λ n. n ≤ last) first o.here spans.bound spans.first) (suc k) (omega arith)
            o.after here_on.2,
      ))

  -- the whole, in three parts
  shape : (other : List (ℕ × T)) → near ++ entries_in (o.before ++ other ∷ o.after)
      ≡ (near ++ entries_in o.before) ++ (other ++ entries_in o.after)
  shape other = ap (λ l. near ++ l) (entries_in-append cmp now end o.before (other ∷ o.after))
      ∙ sym (append_assoc near (entries_in o.before) (other ++ entries_in o.after))

  whole : near ++ entries_in slots ≡ (near ++ entries_in o.before) ++ (o.here ++ entries_in o.after)
  whole = ap (λ l. near ++ entries_in l) o.is ∙ shape o.here

  put_back : (other : List (ℕ × T)) → (near ++ entries_in o.before) ++ (other ++ entries_in o.after)
      ≡ near ++ entries_in (slice_set slots k other)
  put_back other = sym (shape other) ∙ ap (λ l. near ++ entries_in l) (sym (o.written other))

  module _ (at : ℕ) (x : T) (h : end < at) (s : slot_of 7 now at ≡ k) where
    now_before : now ≤ at
    now_before = omega (arith, w.counted)

    earlier_all : AllByRecursion (λ e. entry_cmp cmp (at, x) e ≡ Greater)
        (near ++ entries_in o.before)
    earlier_all = after_moments cmp (at, x) (near ++ entries_in o.before)
        (all-append (λ e. e.0 < at) near (entries_in o.before)
        (all-imply (λ e. e.0 ≤ end) (λ e. e.0 < at) (λ e p. omega (arith, p)) near w.until)
        (all-imply (λ e. (end < e.0) × (slot_of 7 now e.0 < k)) (λ e. e.0 < at)
        (λ e p. earlier_slot 7 now e.0 at now_before (omega (arith, p.1, s)))
        (entries_in o.before)
        (up_to_slot cmp now end 0 k o.before (omega (arith, o.place))
        (slotted-left cmp now end 0 o.before (o.here ∷ o.after) parts))))

    later_all : AllByRecursion (λ e. entry_cmp cmp (at, x) e ≡ Less) (entries_in o.after)
    later_all = before_moments cmp (at, x) (entries_in o.after)
        (all-imply (λ e. (end < e.0) × (suc k ≤ slot_of 7 now e.0)) (λ e. at < e.0)
        (λ e p. earlier_slot 7 now at e.0 (omega (arith, p.0, w.counted))
        (omega (arith, p.1, s))) (entries_in o.after)
        (from_slot cmp now end (suc k) o.after here_on.2))

    pub with_slot : with_entry cmp (near ++ entries_in slots) (at, x) ≡ near
        ++ entries_in (slice_set slots k (with_entry cmp o.here (at, x)))
    with_slot =
        ap (λ l. with_entry cmp l (at, x)) whole
        ∙ insert-front (entry_cmp cmp) (at, x) (near ++ entries_in o.before)
        (o.here ++ entries_in o.after) earlier_all
        ∙ ap (λ l. (near ++ entries_in o.before) ++ l) (insert-back (entry_cmp cmp) (at, x) o.here
        (entries_in o.after) later_all)
        ∙ put_back (with_entry cmp o.here (at, x))

    pub without_slot : without_entry cmp (near ++ entries_in slots) (at, x) ≡ near
        ++ entries_in (slice_set slots k (without_entry cmp o.here (at, x)))
    without_slot =
        ap (λ l. without_entry cmp l (at, x)) whole
        ∙ remove-front (entry_cmp cmp) (at, x) (near ++ entries_in o.before)
        (o.here ++ entries_in o.after) earlier_all
        ∙ ap (λ l. (near ++ entries_in o.before) ++ l) (remove-back (entry_cmp cmp) (at, x) o.here
        (entries_in o.after) later_all)
        ∙ put_back (without_entry cmp o.here (at, x))

    pub has_slot : has_entry cmp (near ++ entries_in slots) (at, x) ≡ has_entry cmp o.here (at, x)
    has_slot =
        ap (λ l. has_entry cmp l (at, x)) whole
        ∙ any-front (entry_cmp cmp) (at, x) (near ++ entries_in o.before)
        (o.here ++ entries_in o.after) earlier_all
        ∙ any-back (entry_cmp cmp) (at, x) o.here (entries_in o.after) later_all

    pub above_slot : (next : ℕ × T) → first_above cmp (Some (at, x)) o.here ≡ Some next
        → first_above cmp (Some (at, x)) (near ++ entries_in slots) ≡ Some next
    above_slot next e =
        ap (first_above cmp (Some (at, x))) whole
        ∙ find-front (entry_cmp cmp) (at, x) (near ++ entries_in o.before)
        (o.here ++ entries_in o.after) earlier_all
        ∙ find-append_found (λ d. is_lt (entry_cmp cmp (at, x) d)) o.here
        (entries_in o.after) next e

    pub above_slot_none : first_above cmp (Some (at, x)) o.here ≡ None
        → first_above cmp (Some (at, x)) (near ++ entries_in slots)
        ≡ first_item (entries_in o.after)
    above_slot_none e =
        ap (first_above cmp (Some (at, x))) whole
        ∙ find-front (entry_cmp cmp) (at, x) (near ++ entries_in o.before)
        (o.here ++ entries_in o.after) earlier_all
        ∙ find-append_none (λ d. is_lt (entry_cmp cmp (at, x) d)) o.here (entries_in o.after) e
        ∙ find-first (entry_cmp cmp) (at, x) (entries_in o.after) later_all

-- a slot written as it was changes nothing
pub same_again : {T : Type 0} {slots : List (List (ℕ × T))} {k : ℕ} (o : Opened slots k)
    (near : List (ℕ × T)) → near ++ entries_in (slice_set slots k o.here) ≡ near ++ entries_in slots
same_again o near = ap (λ l. near ++ entries_in l) (o.written o.here ∙ sym o.is)

-- ---- the first entries, in two parts

module _ {X : Type 0} where
  pub first-append_held : (xs ys : List X) → (xs ≡ [] → ⊥) → first_item (xs ++ ys) ≡ first_item xs
  first-append_held [] ys h = absurd (h refl)
  first-append_held (x ∷ xs) ys h = refl

not_yet : (t n : ℕ) → t < n → nat_le n t ≡ false
not_yet t n h = grind (arith, nat_tests)

module _ {T : Type 0} (t : ℕ) where
  pub first_due-append : (xs ys : List (ℕ × T)) → (xs ≡ [] → ⊥)
      → first_due t (xs ++ ys) ≡ first_due t xs
  first_due-append [] ys h = absurd (h refl)
  first_due-append (x ∷ xs) ys h = refl

  pub without_due-append : (xs ys : List (ℕ × T)) → (xs ≡ [] → ⊥)
      → without_due t (xs ++ ys) ≡ without_due t xs ++ ys
  without_due-append [] ys h = absurd (h refl)
  without_due-append (x ∷ xs) ys h =
      elim (nat_le x.0 t) as (λ b. cond b (xs ++ ys) (x ∷ (xs ++ ys)) ≡ cond b xs (x ∷ xs) ++ ys) [
        | true ↦ refl
        | false ↦ refl
      ]

  pub all-without_due : (P : ℕ × T → Type 0) (xs : List (ℕ × T)) → AllByRecursion P xs
      → AllByRecursion P (without_due t xs)
  all-without_due P [] h = tt
  all-without_due P (x ∷ xs) h =
      elim (nat_le x.0 t) as (λ b. AllByRecursion P (cond b xs (x ∷ xs))) [
        | true ↦ h.1
        | false ↦ h
      ]

  pub sorted-without_due : (c : ℕ × T → ℕ × T → Ordering) (xs : List (ℕ × T))
      → IsStrictlySortedBy c xs → IsStrictlySortedBy c (without_due t xs)
  unfolding IsStrictlySortedBy
  sorted-without_due c [] h = tt
  sorted-without_due c (x ∷ xs) h =
      elim (nat_le x.0 t) as (λ b. IsStrictlySortedBy c (cond b xs (x ∷ xs))) [
        | true ↦ h.1
        | false ↦ h
      ]

  pub first_due-none : (n : ℕ) (xs : List (ℕ × T)) → first_moment xs ≡ Some n → t < n
      → first_due t xs ≡ None
  first_due-none n [] e h = cc
  first_due-none n (x ∷ xs) e h = let same : x.0 ≡ n = cc in rw (not_yet t x.0 (omega arith)) refl

  pub without_due-none : (n : ℕ) (xs : List (ℕ × T)) → first_moment xs ≡ Some n → t < n
      → without_due t xs ≡ xs
  without_due-none n [] e h = cc
  without_due-none n (x ∷ xs) e h = let same : x.0 ≡ n = cc in rw (not_yet t x.0 (omega arith)) refl

  pub first_moment-append : (n : ℕ) (xs ys : List (ℕ × T)) → first_moment xs ≡ Some n
      → first_moment (xs ++ ys) ≡ Some n
  first_moment-append n [] ys e = cc
  first_moment-append n (x ∷ xs) ys e = e

-- ---- slots that hold nothing

module _ {T : Type 0} where
  -- a list of empty slots
  pub record AreEmpty (slots : List (List (ℕ × T))) (n : ℕ) : Type 0 where
    pub count : length slots ≡ n
    pub none : AllByRecursion (λ s. s ≡ []) slots

  pub no_entries : (slots : List (List (ℕ × T))) → AllByRecursion (λ s. s ≡ []) slots
      → entries_in slots ≡ []
  no_entries [] h = refl
  no_entries (s ∷ slots) h = ap (λ l. l ++ entries_in slots) h.0 ∙ no_entries slots h.1

pub empty_wheel : {T : Type 0} (cmp : T → T → Ordering) (now : ℕ) (near : List (ℕ × T))
    (slots : List (List (ℕ × T))) → near ≡ [] → length slots ≡ 2048 → entries_in slots ≡ []
    → IsWheel cmp now now near slots
unfolding IsStrictlySortedBy
empty_wheel cmp now near slots e count none =
    subst (λ l. IsWheel cmp now now l slots) (sym e)
    record {
      counted = omega arith;
      complete = count;
      ordered = tt;
      until = tt;
      slotted =
          slotted_none cmp now now 0 slots none;
    }

-- ---- the first slot, from one on, that holds entries

module _ {T : Type 0} where
  pub none_from : (slots : List (List (ℕ × T))) (from : ℕ)
      → ((k : ℕ) → from ≤ k → k < length slots → slice_index_or slots k [] ≡ [])
      → entries_in (drop from slots) ≡ []
  none_from [] zero h = refl
  none_from [] (suc from) h = refl
  none_from (s ∷ slots) zero h = ap (λ l. l ++ entries_in slots) (h 0 (omega arith) (omega arith))
      ∙ none_from slots 0 (λ k l m. h (suc k) (omega arith) (omega arith))
  none_from (s ∷ slots) (suc from) h =
      none_from slots from (λ k l m. h (suc k) (omega arith) (omega arith))

  from_occupied : (slots : List (List (ℕ × T))) (from k : ℕ) → from ≤ k → k < length slots
      → entries_in (drop from (take k slots)) ≡ [] → entries_in (drop from slots)
      ≡ slice_index_or slots k [] ++ entries_in (drop (suc k) slots)
  from_occupied [] from k h l none = absurd (omega arith)
  from_occupied (s ∷ slots) zero zero h l none = refl
  from_occupied (s ∷ slots) zero (suc k) h l none =
      first_none s (λ n. from_occupied slots 0 k (omega arith) (omega arith) n) none
    where
      first_none : (s : List (ℕ × T))
          → (entries_in (take k slots) ≡ [] → entries_in slots ≡ slice_index_or slots k []
          ++ entries_in (drop (suc k) slots)) → s ++ entries_in (take k slots) ≡ []
          → s ++ entries_in slots ≡ slice_index_or slots k [] ++ entries_in (drop (suc k) slots)
      first_none [] rest none = rest none
      first_none (x ∷ s) rest none = cc
  from_occupied (s ∷ slots) (suc from) zero h l none = absurd (omega arith)
  from_occupied (s ∷ slots) (suc from) (suc k) h l none =
      from_occupied slots from k (omega arith) (omega arith) none

  -- its first entry is the first of all from there on
  pub first_at_slot : (slots : List (List (ℕ × T))) (from k : ℕ) (o : Opened slots k)
      → IsFirstOccupied slots from k → first_item (entries_in (drop from slots)) ≡ first_item o.here
  first_at_slot slots from k o f =
      ap first_item (from_occupied slots from k f.since f.within f.none_before)
      ∙ first-append_held (slice_index_or slots k []) (entries_in (drop (suc k) slots)) f.some_here
      ∙ ap first_item (o.read [])

  -- as the marks say
  module _ (words : List ℕ) (slots : List (List (ℕ × T))) (m : AreMarked words slots)
      (from : ℕ) where
    pub none_held : AreUnmarked words from 2048 → entries_in (drop from slots) ≡ []
    none_held none = none_from slots
        from (λ k h l. (m.exact k).0 (none k h (omega (arith, m.complete))))

    pub first_held : (k : ℕ) → IsFirstMarked words from k → IsFirstOccupied slots from k
    first_held k f = record {
      since = f.since;
      within = omega (arith, f.within, m.complete);
      none_before = none_from (take k slots) from (λ j h l. let lt : j < k =
          omega (arith, length-take k slots) in get_or-take k slots j [] lt
          ∙ (m.exact j).0 (f.none_before j h lt));
      some_here = λ e. omega (arith, f.marked, (m.exact k).1 e);
    }

-- what a mark that is set keeps
pub marked_there : {X : Type 0} (words new : List ℕ) (slots : List (List X)) (slot : ℕ)
    (items : List X) → AreMarked words slots → slot < 2048 → mark_of new slot ≡ 1
    → ((other : ℕ) → other ≢ slot → mark_of new other ≡ mark_of words other) → 0 < length items
    → AreMarked new (slice_set slots slot items)
marked_there words new slots slot items m within one others some = record {
  complete = length-set slots slot items ∙ m.complete;
  exact = λ k. elim (cases_eq k slot) [
    | inl same ↦ (
      λ e. absurd (omega (arith, one, ap (mark_of new) same, e)),
      λ e. absurd (omega (arith, some, ap length (sym (held k same) ∙ e))),
    )
    | inr apart ↦
        let there : slice_index_or (slice_set slots slot items) k [] ≡ slice_index_or slots k [] =
        get_or-set_other slots slot k items [] apart in (
          λ e. there ∙ (m.exact k).0 (sym (others k apart) ∙ e),
          λ e. others k apart
              ∙ (m.exact k).1 (sym there ∙ e),
        )
  ];
}
  where
    held : (k : ℕ) → k ≡ slot → slice_index_or (slice_set slots slot items) k [] ≡ items
    held k same = ap (λ n. slice_index_or (slice_set slots slot items) n []) same
        ∙ get_or-set_same slots slot items [] (omega (arith, m.complete))

-- ---- a turn to the first slot that holds entries

module _ {T : Type 0} (near : List (ℕ × T)) (slots : List (List (ℕ × T))) (k : ℕ)
    (o : Opened slots k) (none_near : near ≡ []) (none : entries_in o.before ≡ []) where
  pub turned_whole : near ++ entries_in slots ≡ o.here ++ entries_in o.after
  turned_whole =
      ap (λ l. l ++ entries_in slots) none_near
      ∙ ap entries_in o.is
      ∙ entries_in-append (λ _ _. Equal) 0 0 o.before (o.here ∷ o.after)
      ∙ ap (λ l. l ++ (o.here ++ entries_in o.after)) none

  pub turned_rest : entries_in (slice_set slots k []) ≡ entries_in o.after
  turned_rest =
      ap entries_in (o.written [])
      ∙ entries_in-append (λ _ _. Equal) 0 0 o.before ([] ∷ o.after)
      ∙ ap (λ l. l ++ entries_in o.after) none

pub some_first : {T : Type 0} (n : ℕ) (es : List (ℕ × T)) → first_moment es ≡ Some n → es ≡ [] → ⊥
some_first n [] e h = cc
some_first n (d ∷ es) e h = cc
