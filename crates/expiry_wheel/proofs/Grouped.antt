-- An index kept by moment: what an edit at one moment does to the entries.
use Rattle.std.proofs.Common.{◌≡◌, ℕ, ◌<◌, ◌≤◌, Bool, true, false, cond, List, [], ◌∷◌, ◌++◌, ◌-◌}
use Rattle.std.proofs.Common.{suc, length, refl, ap, sym, ◌∙◌, subst, arith, append_assoc}
use Rattle.std.proofs.Common.{length-append, inl, inr}
use Rattle.std.specs.Prelude.{Option, Some, None, nat_lt, nat_le, ◌==◌, ◌||◌, filter}
use Rattle.std.specs.Option.{option_map, option_copied_mut}
use Rattle.std.specs.Borrow.{MutBor}
use Rattle.std.specs.declared.cmp.Ordering.{Ordering}
use Rattle.std.specs.declared.cmp.Ordering.TheVariants.{Less, Equal, Greater}
use Rattle.std.specs.Ordering.{nat_cmp, is_lt, is_gt, is_le, match_ordering}
use Rattle.std.specs.List.{AllByRecursion, find, list_any, slice_get}
use Rattle.std.specs.List.Sorted.{IsStrictlySortedBy}
use Rattle.std.specs.BTreeMap.{is_at, insert_entry}
use Rattle.std.specs.BTreeSet.{insert_key}
use Rattle.std.specs.Set.{remove_key}
use Rattle.std.specs.Map.{lookup, set_value, remove_entry}
use Rattle.std.proofs.lemmas.Bool.{cases_order, eq-eqb}
use Rattle.std.proofs.lemmas.Bool.Decides.{nat_tests}
use Rattle.expiry_wheel.specs.Entries.{entry_cmp, IsInOrder, has_entry, with_entry, without_entry}
use Rattle.expiry_wheel.specs.Entries.{first_moment, first_due, without_due, first_above}
use Rattle.expiry_wheel.specs.Entries.{first_beyond}
use Rattle.expiry_wheel.specs.Items.{first_item, first_item_above}
use Rattle.expiry_wheel.specs.Slots.{SpansEntries}
use Rattle.expiry_wheel.specs.Moments.{entries_at, entries_of, AreGroups}
use Rattle.expiry_wheel.proofs.Lists.{all-append, all-left, all-right, all-imply, any_right}
use Rattle.expiry_wheel.proofs.Lists.{insert-front, insert-back, remove-front, remove-back}
use Rattle.expiry_wheel.proofs.Lists.{any-front, any-back, find-front, find-first}
use Rattle.expiry_wheel.proofs.Lists.{find-append_found, find-append_none, sorted-append}

-- ---- the order of two moments, and of two entries

pub nat_cmp-less : (a b : ℕ) → a < b → nat_cmp a b ≡ Less
nat_cmp-less a b h = grind (arith, nat_tests)

pub nat_cmp-greater : (a b : ℕ) → b < a → nat_cmp a b ≡ Greater
nat_cmp-greater a b h = grind (arith, nat_tests)

pub nat_cmp-equal : (a : ℕ) → nat_cmp a a ≡ Equal
nat_cmp-equal a = grind (arith, nat_tests)

pub is_at-less : (a b : ℕ) → a < b → is_at (nat_cmp a) b ≡ false
is_at-less a b h = rw (nat_cmp-less a b h) refl

pub is_at-greater : (a b : ℕ) → b < a → is_at (nat_cmp a) b ≡ false
is_at-greater a b h = rw (nat_cmp-greater a b h) refl

pub is_at-equal : (a : ℕ) → is_at (nat_cmp a) a ≡ true
is_at-equal a = rw (nat_cmp-equal a) refl

module _ {T : Type 0} (cmp : T → T → Ordering) where
  pub earlier : (a b : ℕ × T) → a.0 < b.0 → entry_cmp cmp a b ≡ Less
  earlier a b h = rw (nat_cmp-less a.0 b.0 h) refl

  pub later : (a b : ℕ × T) → b.0 < a.0 → entry_cmp cmp a b ≡ Greater
  later a b h = rw (nat_cmp-greater a.0 b.0 h) refl

  pub together : (at : ℕ) (x y : T) → entry_cmp cmp (at, x) (at, y) ≡ cmp x y
  together at x y = rw (nat_cmp-equal at) refl

-- ---- the entries of one moment

module _ {T : Type 0} where
  pub all-entries_at : (P : ℕ → Type 0) (at : ℕ) (xs : List T) → P at
      → AllByRecursion (λ (e : ℕ × T). P e.0) (entries_at at xs)
  all-entries_at P at [] h = tt
  all-entries_at P at (x ∷ xs) h = (h, all-entries_at P at xs h)

  pub all-entries_of : (P : ℕ → Type 0) (ms : List (ℕ × List T))
      → AllByRecursion (λ (m : ℕ × List T). P m.0) ms
      → AllByRecursion (λ (e : ℕ × T). P e.0) (entries_of ms)
  all-entries_of P [] h = tt
  all-entries_of P (m ∷ ms) h = all-append (λ e. P e.0) (entries_at m.0 m.1) (entries_of ms)
      (all-entries_at P m.0 m.1 h.0) (all-entries_of P ms h.1)

  pub entries_of-append : (ms ns : List (ℕ × List T)) → entries_of (ms ++ ns) ≡ entries_of ms
      ++ entries_of ns
  entries_of-append [] ns = refl
  entries_of-append (m ∷ ms) ns = ap (λ l. entries_at m.0 m.1 ++ l) (entries_of-append ms ns)
      ∙ sym (append_assoc (entries_at m.0 m.1) (entries_of ms) (entries_of ns))

module _ {T : Type 0} (cmp : T → T → Ordering) where
  pub insert_at : (at : ℕ) (x : T) (xs : List T)
      → insert_key (entry_cmp cmp) (entries_at at xs) (at, x) ≡ entries_at at (insert_key cmp xs x)
  insert_at at x [] = refl
  insert_at at x (y ∷ xs) = rw (together cmp at x y)
      (elim (cmp x y) as (λ o. match_ordering o ((at, x) ∷ (at, y) ∷ entries_at at xs)
      ((at, y) ∷ entries_at at xs) ((at, y) ∷ insert_key (entry_cmp cmp) (entries_at at xs) (at, x))
      ≡ entries_at at (match_ordering o (x ∷ y ∷ xs) (y ∷ xs) (y ∷ insert_key cmp xs x))) [
        | Less ↦ refl
        | Equal ↦ refl
        | Greater ↦ ap (λ l. (at, y) ∷ l) (insert_at at x xs)
      ])

  pub remove_at : (at : ℕ) (x : T) (xs : List T)
      → remove_key (is_at (entry_cmp cmp (at, x))) (entries_at at xs) ≡ entries_at
      at (remove_key (is_at (cmp x)) xs)
  remove_at at x [] = refl
  remove_at at x (y ∷ xs) = rw (together cmp at x y)
      (elim (is_at (cmp x) y) as (λ b. cond b (entries_at at xs)
      ((at, y) ∷ remove_key (is_at (entry_cmp cmp (at, x))) (entries_at at xs)) ≡ entries_at
      at (cond b xs (y ∷ remove_key (is_at (cmp x)) xs))) [
        | true ↦ refl
        | false ↦ ap (λ l. (at, y) ∷ l) (remove_at at x xs)
      ])

  pub any_at : (at : ℕ) (x : T) (xs : List T)
      → list_any (is_at (entry_cmp cmp (at, x))) (entries_at at xs) ≡ list_any (is_at (cmp x)) xs
  any_at at x [] = refl
  any_at at x (y ∷ xs) = rw (together cmp at x y) (ap (λ b. is_at (cmp x) y || b) (any_at at x xs))

  pub find_at : (at : ℕ) (x : T) (xs : List T)
      → find (λ e. is_lt (entry_cmp cmp (at, x) e)) (entries_at at xs) ≡ option_map (λ y. (at, y))
      (first_item_above cmp x xs)
  find_at at x [] = refl
  find_at at x (y ∷ xs) = rw (together cmp at x y)
      (elim (is_lt (cmp x y)) as (λ b. cond b (Some (at, y))
      (find (λ e. is_lt (entry_cmp cmp (at, x) e)) (entries_at at xs)) ≡ option_map (λ z. (at, z))
      (cond b (Some y) (first_item_above cmp x xs))) [
        | true ↦ refl
        | false ↦ find_at at x xs
      ])

  pub sorted_at : (at : ℕ) (xs : List T) → IsStrictlySortedBy cmp xs
      → IsStrictlySortedBy (entry_cmp cmp) (entries_at at xs)
  unfolding IsStrictlySortedBy
  sorted_at at [] h = tt
  sorted_at at (x ∷ xs) h = (before_all xs h.0, sorted_at at xs h.1)
    where
      before_all : (ys : List T) → AllByRecursion (λ y. cmp x y ≡ Less) ys
          → AllByRecursion (λ e. entry_cmp cmp (at, x) e ≡ Less) (entries_at at ys)
      before_all [] k = tt
      before_all (y ∷ ys) k = (together cmp at x y ∙ k.0, before_all ys k.1)

  -- entries before all of those, by their moments
  pub before_moments : (e : ℕ × T) (es : List (ℕ × T)) → AllByRecursion (λ d. e.0 < d.0) es
      → AllByRecursion (λ d. entry_cmp cmp e d ≡ Less) es
  before_moments e es h = all-imply (λ d. e.0 < d.0) (λ d. entry_cmp cmp e d ≡ Less)
      (λ d k. earlier cmp e d k) es h

  pub after_moments : (e : ℕ × T) (es : List (ℕ × T)) → AllByRecursion (λ d. d.0 < e.0) es
      → AllByRecursion (λ d. entry_cmp cmp e d ≡ Greater) es
  after_moments e es h = all-imply (λ d. d.0 < e.0) (λ d. entry_cmp cmp e d ≡ Greater)
      (λ d k. later cmp e d k) es h

  -- the entries of groups ascend
  pub sorted-entries_of : (ms : List (ℕ × List T)) → AreGroups cmp ms
      → IsInOrder cmp (entries_of ms)
  unfolding IsStrictlySortedBy
  sorted-entries_of [] h = tt
  sorted-entries_of (m ∷ ms) h =
      sorted-append (entry_cmp cmp) (entries_at m.0 m.1) (entries_of ms) (sorted_at m.0 m.1 h.1)
      (sorted-entries_of ms h.3) (every m.1)
    where
      above : AllByRecursion (λ d. m.0 < d.0) (entries_of ms)
      above = all-entries_of (λ n. m.0 < n) ms h.2

      every : (xs : List T) → AllByRecursion (λ e. AllByRecursion (λ d. entry_cmp cmp e d ≡ Less)
          (entries_of ms)) (entries_at m.0 xs)
      every [] = tt
      every (x ∷ xs) = (before_moments (m.0, x) (entries_of ms) above, every xs)

-- ---- the groups round a moment

-- where a moment with items stands among the groups, and what an edit there makes
pub record Located {T : Type 0} (at : ℕ) (xs : List T) (ms : List (ℕ × List T)) : Type 0 where
  pub before : List (ℕ × List T)
  pub after : List (ℕ × List T)
  pub is : ms ≡ before ++ (at, xs) ∷ after
  pub below : AllByRecursion (λ m. m.0 < at) before
  pub above : AllByRecursion (λ m. at < m.0) after
  pub written : (w : List T) → set_value (is_at (nat_cmp at)) ms w ≡ before ++ (at, w) ∷ after
  pub dropped : (w : List T) → remove_entry (is_at (nat_cmp at))
      (set_value (is_at (nat_cmp at)) ms w) ≡ before ++ after
  pub beyond : filter (λ m. nat_lt at m.0) ms ≡ after

-- where a moment with no items would stand
pub record Vacant {T : Type 0} (at : ℕ) (ms : List (ℕ × List T)) : Type 0 where
  pub before : List (ℕ × List T)
  pub after : List (ℕ × List T)
  pub is : ms ≡ before ++ after
  pub below : AllByRecursion (λ m. m.0 < at) before
  pub above : AllByRecursion (λ m. at < m.0) after
  pub inserted : (w : List T) → insert_entry nat_cmp ms at w ≡ before ++ (at, w) ∷ after
  pub beyond : filter (λ m. nat_lt at m.0) ms ≡ after

pub nat_lt-true : (a b : ℕ) → a < b → nat_lt a b ≡ true
nat_lt-true a b h = grind (arith, nat_tests)

pub nat_lt-false : (a b : ℕ) → b ≤ a → nat_lt a b ≡ false
nat_lt-false a b h = grind (arith, nat_tests)

module _ {T : Type 0} where
  all_later : (at : ℕ) (ms : List (ℕ × List T)) → AllByRecursion (λ m. at < m.0) ms
      → filter (λ m. nat_lt at m.0) ms ≡ ms
  all_later at [] h = refl
  all_later at (m ∷ ms) h = rw (nat_lt-true at m.0 h.0) (ap (λ l. m ∷ l) (all_later at ms h.1))

  all_trans : (a b : ℕ) (ms : List (ℕ × List T)) → a < b → AllByRecursion (λ m. b < m.0) ms
      → AllByRecursion (λ m. a < m.0) ms
  all_trans a b ms h k = all-imply (λ m. b < m.0) (λ m. a < m.0) (λ m l. omega arith) ms k

  vacant_later : (at : ℕ) (ms : List (ℕ × List T)) → AllByRecursion (λ m. at < m.0) ms
      → Vacant at ms
  vacant_later at [] h = record {
    before = [];
    after = [];
    is = refl;
    below = tt;
    above =
        tt;
    inserted = λ w. refl;
    beyond = refl;
  }
  vacant_later at (m ∷ ms) h = record {
    before = [];
    after = m ∷ ms;
    is = refl;
    below = tt;
    above = h;
    inserted = λ w. rw (nat_cmp-less at m.0 h.0) refl;
    beyond = all_later at (m ∷ ms) h;
  }

  vacant_step : (at : ℕ) (m : ℕ × List T) (ms : List (ℕ × List T)) → m.0 < at → Vacant at ms
      → Vacant at (m ∷ ms)
  vacant_step at m ms h v = record {
    before = m ∷ v.before;
    after = v.after;
    is = ap (λ l. m ∷ l) v.is;
    below = (h, v.below);
    above = v.above;
    inserted = λ w. rw (nat_cmp-greater at m.0 h) (ap (λ l. m ∷ l) (v.inserted w));
    beyond = rw (nat_lt-false at m.0 (omega arith)) v.beyond;
  }

  located_step : (at : ℕ) (xs : List T) (m : ℕ × List T) (ms : List (ℕ × List T)) → m.0 < at
      → Located at xs ms → Located at xs (m ∷ ms)
  located_step at xs m ms h l = record {
    before = m ∷ l.before;
    after = l.after;
    is = ap (λ r. m ∷ r) l.is;
    below = (h, l.below);
    above = l.above;
    written = λ w. rw (is_at-greater at m.0 h) (ap (λ r. m ∷ r) (l.written w));
    dropped = λ w. rw (is_at-greater at m.0 h)
        (rw (is_at-greater at m.0 h) (ap (λ r. m ∷ r) (l.dropped w)));
    beyond = rw (nat_lt-false at m.0 (omega arith)) l.beyond;
  }

  located_here : (xs : List T) (m : ℕ × List T) (ms : List (ℕ × List T)) → m.1 ≡ xs
      → AllByRecursion (λ n. m.0 < n.0) ms → Located m.0 xs (m ∷ ms)
  located_here xs m ms h above = record {
    before = [];
    after = ms;
    is = ap (λ w. (m.0, w) ∷ ms) h;
    below = tt;
    above = above;
    written = λ w. rw (is_at-equal m.0) refl;
    dropped = λ w. rw (is_at-equal m.0) (rw (is_at-equal m.0) refl);
    beyond = rw (nat_lt-false m.0 m.0 (omega arith)) (all_later m.0 ms above);
  }

module _ {T : Type 0} (cmp : T → T → Ordering) where
  -- what a look-up at a moment finds has a moment of which all hold
  found_among : (P : ℕ → Type 0) (at : ℕ) (xs : List T) (ms : List (ℕ × List T))
      → AllByRecursion (λ m. P m.0) ms → lookup (is_at (nat_cmp at)) ms ≡ Some xs → P at
  found_among P at xs [] h k = cc
  found_among P at xs (m ∷ ms) h k = elim (cases_order at m.0) [
    | inl eq ↦ subst P (sym eq) h.0
    | inr ne ↦ elim ne [
      | inl lt ↦ found_among P at xs ms h.1 (rw (is_at-less at m.0 lt) at k)
      | inr gt ↦ found_among P at xs ms h.1 (rw (is_at-greater at m.0 gt) at k)
    ]
  ]

  pub located : (at : ℕ) (xs : List T) (ms : List (ℕ × List T)) → AreGroups cmp ms
      → lookup (is_at (nat_cmp at)) ms ≡ Some xs → Located at xs ms
  located at xs [] h k = cc
  located at xs (m ∷ ms) h k = elim (cases_order at m.0) [
    | inl eq ↦ subst (λ n. Located n xs (m ∷ ms)) (sym eq)
        (located_here xs m ms (some_same (rw (eq, is_at-equal m.0) at k)) h.2)
    | inr ne ↦ elim ne [
      | inl lt ↦ absurd (omega (
        arith,
        found_among (λ n. m.0 < n) at xs ms h.2 (rw (is_at-less at m.0 lt) at k),
      ))
      | inr gt ↦ located_step at xs m ms gt
          (located at xs ms h.3 (rw (is_at-greater at m.0 gt) at k))
    ]
  ]
    where
      some_same : {X : Type 0} {a b : X} → Some a ≡ Some b → a ≡ b
      some_same e = cc

  pub vacant : (at : ℕ) (ms : List (ℕ × List T)) → AreGroups cmp ms → lookup (is_at (nat_cmp at)) ms
      ≡ None → Vacant at ms
  vacant at [] h k = vacant_later at [] tt
  vacant at (m ∷ ms) h k = elim (cases_order at m.0) [
    | inl eq ↦ none_not (rw (eq, is_at-equal m.0) at k)
    | inr ne ↦ elim ne [
      | inl lt ↦ vacant_later at (m ∷ ms) (lt, all_trans at m.0 ms lt h.2)
      | inr gt ↦ vacant_step at m ms gt (vacant at ms h.3 (rw (is_at-greater at m.0 gt) at k))
    ]
  ]
    where
      none_not : {X G : Type 0} {a : X} → Some a ≡ None → G
      none_not e = cc

-- ---- what keeps groups groups

module _ {T : Type 0} (cmp : T → T → Ordering) where
  -- groups whose moments all come before those of others
  groups-append : (ms ns : List (ℕ × List T)) (at : ℕ) → AreGroups cmp ms → AreGroups cmp ns
      → AllByRecursion (λ m. m.0 < at) ms → AllByRecursion (λ n. at ≤ n.0) ns
      → AreGroups cmp (ms ++ ns)
  groups-append [] ns at h k below above = k
  groups-append (m ∷ ms) ns at h k below above = (
    h.0,
    h.1,
    all-append (λ n. m.0 < n.0) ms ns h.2 (all-imply (λ n. at ≤ n.0) (λ n. m.0 < n.0)
        (λ n le. omega (arith, below.0)) ns above),
    groups-append ms ns at h.3 k below.1 above,
  )

  pub groups-left : (ms ns : List (ℕ × List T)) → AreGroups cmp (ms ++ ns) → AreGroups cmp ms
  groups-left [] ns h = tt
  groups-left (m ∷ ms) ns h = (h.0, h.1, all-left (λ n. m.0 < n.0) ms ns h.2, groups-left ms ns h.3)

  pub groups-right : (ms ns : List (ℕ × List T)) → AreGroups cmp (ms ++ ns) → AreGroups cmp ns
  groups-right [] ns h = h
  groups-right (m ∷ ms) ns h = groups-right ms ns h.3

  at_least : (at : ℕ) (ms : List (ℕ × List T)) → AllByRecursion (λ m. at < m.0) ms
      → AllByRecursion (λ m. at ≤ m.0) ms
  at_least at ms h = all-imply (λ m. at < m.0) (λ m. at ≤ m.0) (λ m l. omega arith) ms h

  pub groups_written : (at : ℕ) (xs w : List T) (ms : List (ℕ × List T)) → Located at xs ms
      → AreGroups cmp ms → 0 < length w → IsStrictlySortedBy cmp w
      → AreGroups cmp (set_value (is_at (nat_cmp at)) ms w)
  groups_written at xs w ms l h some sorted =
      let parts : AreGroups cmp (l.before ++ (at, xs) ∷ l.after) = subst (AreGroups cmp) l.is h in
      rw (l.written w) (groups-append l.before ((at, w) ∷ l.after)
      at (groups-left l.before ((at, xs) ∷ l.after) parts)
      (some, sorted, l.above, (groups-right l.before ((at, xs) ∷ l.after) parts).3) l.below
      (omega arith, at_least at l.after l.above))

  pub groups_dropped : (at : ℕ) (xs w : List T) (ms : List (ℕ × List T)) → Located at xs ms
      → AreGroups cmp ms → AreGroups cmp
      (remove_entry (is_at (nat_cmp at)) (set_value (is_at (nat_cmp at)) ms w))
  groups_dropped at xs w ms l h =
      let parts : AreGroups cmp (l.before ++ (at, xs) ∷ l.after) = subst (AreGroups cmp) l.is h in
      rw (l.dropped w) (groups-append l.before l.after
      at (groups-left l.before ((at, xs) ∷ l.after) parts)
      (groups-right l.before ((at, xs) ∷ l.after) parts).3 l.below (at_least at l.after l.above))

  pub groups_inserted : (at : ℕ) (w : List T) (ms : List (ℕ × List T)) → Vacant at ms
      → AreGroups cmp ms → 0 < length w → IsStrictlySortedBy cmp w
      → AreGroups cmp (insert_entry nat_cmp ms at w)
  groups_inserted at w ms v h some sorted =
      let parts : AreGroups cmp (v.before ++ v.after) = subst (AreGroups cmp) v.is h in
      rw (v.inserted w) (groups-append v.before ((at, w) ∷ v.after)
      at (groups-left v.before v.after parts)
      (some, sorted, v.above, groups-right v.before v.after parts) v.below (
        omega arith,
        at_least at v.after v.above,
      ))

-- ---- what edits and searches at one moment do to the entries

module _ {T : Type 0} (cmp : T → T → Ordering) (at : ℕ) where
  below_entries : (x : T) (ms : List (ℕ × List T)) → AllByRecursion (λ m. m.0 < at) ms
      → AllByRecursion (λ e. entry_cmp cmp (at, x) e ≡ Greater) (entries_of ms)
  below_entries x ms h = after_moments cmp (at, x) (entries_of ms)
      (all-entries_of (λ n. n < at) ms h)

  above_entries : (x : T) (ms : List (ℕ × List T)) → AllByRecursion (λ m. at < m.0) ms
      → AllByRecursion (λ e. entry_cmp cmp (at, x) e ≡ Less) (entries_of ms)
  above_entries x ms h = before_moments cmp (at, x) (entries_of ms)
      (all-entries_of (λ n. at < n) ms h)

  -- the entries, in three parts
  pub entries_located : (xs : List T) (before after : List (ℕ × List T))
      → entries_of (before ++ (at, xs) ∷ after) ≡ entries_of before
      ++ (entries_at at xs ++ entries_of after)
  entries_located xs before after = entries_of-append before ((at, xs) ∷ after)

  pub planned_there : (x : T) (xs : List T) (ms : List (ℕ × List T)) → Located at xs ms
      → with_entry cmp (entries_of ms) (at, x)
      ≡ entries_of (set_value (is_at (nat_cmp at)) ms (insert_key cmp xs x))
  planned_there x xs ms l =
      ap (λ es. with_entry cmp es (at, x)) (ap entries_of l.is
      ∙ entries_located xs l.before l.after)
      ∙ insert-front (entry_cmp cmp) (at, x) (entries_of l.before)
      (entries_at at xs ++ entries_of l.after) (below_entries x l.before l.below)
      ∙ ap (λ es. entries_of l.before ++ es) (insert-back (entry_cmp cmp) (at, x) (entries_at at xs)
      (entries_of l.after) (above_entries x l.after l.above))
      ∙ ap (λ es. entries_of l.before ++ (es ++ entries_of l.after)) (insert_at cmp at x xs)
      ∙ sym (entries_located (insert_key cmp xs x) l.before l.after)
      ∙ ap entries_of (sym (l.written (insert_key cmp xs x)))

  pub planned_anew : (x : T) (ms : List (ℕ × List T)) → Vacant at ms
      → with_entry cmp (entries_of ms) (at, x) ≡ entries_of (insert_entry nat_cmp ms at (x ∷ []))
  planned_anew x ms v =
      ap (λ es. with_entry cmp es (at, x)) (ap entries_of v.is ∙ entries_of-append v.before v.after)
      ∙ insert-front (entry_cmp cmp) (at, x) (entries_of v.before) (entries_of v.after)
      (below_entries x v.before v.below)
      ∙ ap (λ es. entries_of v.before ++ es)
      (insert-back (entry_cmp cmp) (at, x) [] (entries_of v.after)
      (above_entries x v.after v.above))
      ∙ sym (entries_located (x ∷ []) v.before v.after)
      ∙ ap entries_of (sym (v.inserted (x ∷ [])))

  cancelled : (x : T) (xs : List T) (ms : List (ℕ × List T)) (l : Located at xs ms)
      → without_entry cmp (entries_of ms) (at, x) ≡ entries_of l.before
      ++ (entries_at at (remove_key (is_at (cmp x)) xs) ++ entries_of l.after)
  cancelled x xs ms l =
      ap (λ es. without_entry cmp es (at, x)) (ap entries_of l.is
      ∙ entries_located xs l.before l.after)
      ∙ remove-front (entry_cmp cmp) (at, x) (entries_of l.before)
      (entries_at at xs ++ entries_of l.after) (below_entries x l.before l.below)
      ∙ ap (λ es. entries_of l.before ++ es) (remove-back (entry_cmp cmp) (at, x) (entries_at at xs)
      (entries_of l.after) (above_entries x l.after l.above))
      ∙ ap (λ es. entries_of l.before ++ (es ++ entries_of l.after)) (remove_at cmp at x xs)

  pub cancelled_there : (x : T) (xs : List T) (ms : List (ℕ × List T)) → Located at xs ms
      → without_entry cmp (entries_of ms) (at, x)
      ≡ entries_of (set_value (is_at (nat_cmp at)) ms (remove_key (is_at (cmp x)) xs))
  cancelled_there x xs ms l = cancelled x xs ms l
      ∙ sym (entries_located (remove_key (is_at (cmp x)) xs) l.before l.after)
      ∙ ap entries_of (sym (l.written (remove_key (is_at (cmp x)) xs)))

  pub cancelled_last : (x : T) (xs w : List T) (ms : List (ℕ × List T)) → Located at xs ms
      → remove_key (is_at (cmp x)) xs ≡ [] → without_entry cmp (entries_of ms) (at, x)
      ≡ entries_of (remove_entry (is_at (nat_cmp at)) (set_value (is_at (nat_cmp at)) ms w))
  cancelled_last x xs w ms l none =
      cancelled x xs ms l ∙ ap (λ ys. entries_of l.before
      ++ (entries_at at ys ++ entries_of l.after)) none
      ∙ sym (entries_of-append l.before l.after) ∙ ap entries_of (sym (l.dropped w))

  pub cancelled_absent : (x : T) (ms : List (ℕ × List T)) → Vacant at ms
      → without_entry cmp (entries_of ms) (at, x) ≡ entries_of ms
  cancelled_absent x ms v =
      ap (λ es. without_entry cmp es (at, x)) (ap entries_of v.is
      ∙ entries_of-append v.before v.after)
      ∙ remove-front (entry_cmp cmp) (at, x) (entries_of v.before) (entries_of v.after)
      (below_entries x v.before v.below)
      ∙ ap (λ es. entries_of v.before ++ es)
      (remove-back (entry_cmp cmp) (at, x) [] (entries_of v.after)
      (above_entries x v.after v.above))
      ∙ sym (entries_of-append v.before v.after) ∙ ap entries_of (sym v.is)

  pub has_there : (x : T) (xs : List T) (ms : List (ℕ × List T)) → Located at xs ms
      → has_entry cmp (entries_of ms) (at, x) ≡ list_any (is_at (cmp x)) xs
  has_there x xs ms l =
      ap (λ es. has_entry cmp es (at, x)) (ap entries_of l.is ∙ entries_located xs l.before l.after)
      ∙ any-front (entry_cmp cmp) (at, x) (entries_of l.before)
      (entries_at at xs ++ entries_of l.after) (below_entries x l.before l.below)
      ∙ any-back (entry_cmp cmp) (at, x) (entries_at at xs) (entries_of l.after)
      (above_entries x l.after l.above)
      ∙ any_at cmp at x xs

  pub has_absent : (x : T) (ms : List (ℕ × List T)) → Vacant at ms
      → has_entry cmp (entries_of ms) (at, x) ≡ false
  has_absent x ms v =
      ap (λ es. has_entry cmp es (at, x)) (ap entries_of v.is ∙ entries_of-append v.before v.after)
      ∙ any-front (entry_cmp cmp) (at, x) (entries_of v.before) (entries_of v.after)
      (below_entries x v.before v.below)
      ∙ any-back (entry_cmp cmp) (at, x) [] (entries_of v.after) (above_entries x v.after v.above)

  -- the entry above one: at its moment, or the first beyond
  pub above_there : (x y : T) (xs : List T) (ms : List (ℕ × List T)) → Located at xs ms
      → first_item_above cmp x xs ≡ Some y → first_above cmp (Some (at, x)) (entries_of ms)
      ≡ Some (at, y)
  above_there x y xs ms l found =
      ap (first_above cmp (Some (at, x))) (ap entries_of l.is ∙ entries_located xs l.before l.after)
      ∙ find-front (entry_cmp cmp) (at, x) (entries_of l.before)
      (entries_at at xs ++ entries_of l.after) (below_entries x l.before l.below)
      ∙ find-append_found (λ e. is_lt (entry_cmp cmp (at, x) e)) (entries_at at xs)
      (entries_of l.after) (at, y) (find_at cmp at x xs ∙ ap (option_map (λ z. (at, z))) found)

  pub above_beyond : (x : T) (xs : List T) (ms : List (ℕ × List T)) → Located at xs ms
      → first_item_above cmp x xs ≡ None → first_above cmp (Some (at, x)) (entries_of ms)
      ≡ first_item (entries_of (filter (λ m. nat_lt at m.0) ms))
  above_beyond x xs ms l none =
      ap (first_above cmp (Some (at, x))) (ap entries_of l.is ∙ entries_located xs l.before l.after)
      ∙ find-front (entry_cmp cmp) (at, x) (entries_of l.before)
      (entries_at at xs ++ entries_of l.after) (below_entries x l.before l.below)
      ∙ find-append_none (λ e. is_lt (entry_cmp cmp (at, x) e)) (entries_at at xs)
      (entries_of l.after) (find_at cmp at x xs ∙ ap (option_map (λ z. (at, z))) none)
      ∙ find-first (entry_cmp cmp) (at, x) (entries_of l.after) (above_entries x l.after l.above)
      ∙ ap (λ ns. first_item (entries_of ns)) (sym l.beyond)

  pub above_absent : (x : T) (ms : List (ℕ × List T)) → Vacant at ms
      → first_above cmp (Some (at, x)) (entries_of ms)
      ≡ first_item (entries_of (filter (λ m. nat_lt at m.0) ms))
  above_absent x ms v =
      ap (first_above cmp (Some (at, x))) (ap entries_of v.is ∙ entries_of-append v.before v.after)
      ∙ find-front (entry_cmp cmp) (at, x) (entries_of v.before) (entries_of v.after)
      (below_entries x v.before v.below)
      ∙ find-first (entry_cmp cmp) (at, x) (entries_of v.after) (above_entries x v.after v.above)
      ∙ ap (λ ns. first_item (entries_of ns)) (sym v.beyond)

-- ---- the first moment

-- the first group, and its first item
pub record FirstGroup {T : Type 0} (at : ℕ) (ms : List (ℕ × List T)) : Type 0 where
  pub item : T
  pub items : List T
  pub rest : List (ℕ × List T)
  pub is : ms ≡ (at, item ∷ items) ∷ rest

module _ {T : Type 0} (cmp : T → T → Ordering) where
  pub first_group : (at : ℕ) (ms : List (ℕ × List T)) → AreGroups cmp ms
      → first_moment (entries_of ms) ≡ Some at → FirstGroup at ms
  first_group at [] h k = cc
  first_group at (m ∷ ms) h k = go m.0 m.1 h.0 k
    where
      go : (n : ℕ) (xs : List T) → 0 < length xs → first_moment (entries_at n xs ++ entries_of ms)
          ≡ Some at → FirstGroup at ((n, xs) ∷ ms)
      go n [] some e = absurd (omega arith)
      go n (x ∷ xs) some e = let same : n ≡ at = cc in
          record { item = x; items = xs; rest = ms; is = ap (λ r. (r, x ∷ xs) ∷ ms) same }

module _ {T : Type 0} (cmp : T → T → Ordering) where
  -- each group has an item
  pub some_located : (at : ℕ) (xs : List T) (ms : List (ℕ × List T)) → Located at xs ms
      → AreGroups cmp ms → 0 < length xs
  some_located at xs ms l h = (groups-right cmp l.before ((at, xs) ∷ l.after)
      (subst (AreGroups cmp) l.is h)).0

module _ {T : Type 0} (cmp : T → T → Ordering) (at : ℕ) (ms : List (ℕ × List T))
    (groups : AreGroups cmp ms) (r : Option (MutBor (List T))) (looked_up : option_copied_mut r
    ≡ lookup (is_at (nat_cmp at)) ms) where
  -- the place of what a look-up found, and the gap where it found nothing
  pub place_found : (x : MutBor (List T)) → r ≡ Some x → Located at x.now ms
  place_found x e = located cmp at x.now ms groups (sym looked_up ∙ ap option_copied_mut e)

  pub gap_found : r ≡ None → Vacant at ms
  gap_found e = vacant cmp at ms groups (sym looked_up ∙ ap option_copied_mut e)

module _ {T : Type 0} (cmp : T → T → Ordering) where
  -- the first group, by a look at place 0
  pub shown_head : (m : ℕ × List T) (ms : List (ℕ × List T)) → slice_get ms 0 ≡ Some m
      → (rest : List (ℕ × List T)) × (ms ≡ m ∷ rest)
  shown_head m [] e = cc
  shown_head m (n ∷ ms) e = (ms, ap (λ k. k ∷ ms) (unwrapped e))
    where
      unwrapped : {X : Type 0} {a b : X} → Some a ≡ Some b → a ≡ b
      unwrapped e = cc

  pub first_shown : (at : ℕ) (xs : List T) (ms : List (ℕ × List T)) → AreGroups cmp ms
      → slice_get ms 0 ≡ Some (at, xs) → first_moment (entries_of ms) ≡ Some at
  first_shown at xs ms h e = let (rest, is) = shown_head (at, xs) ms e in
      ap (λ ns. first_moment (entries_of ns)) is ∙ go xs rest (subst (AreGroups cmp) is h).0
    where
      go : (xs : List T) (rest : List (ℕ × List T)) → 0 < length xs
          → first_moment (entries_of ((at, xs) ∷ rest)) ≡ Some at
      go [] rest some = absurd (omega arith)
      go (x ∷ xs) rest some = refl

  -- the first entry, by the first group's first item
  pub first_entry_shown : (at : ℕ) (x : T) (xs : List T) (ms : List (ℕ × List T))
      → slice_get ms 0 ≡ Some (at, xs) → first_item xs ≡ Some x → first_item (entries_of ms)
      ≡ Some (at, x)
  first_entry_shown at x xs ms e f = let (rest, is) = shown_head (at, xs) ms e in
      ap (λ ns. first_item (entries_of ns)) is ∙ go xs rest f
    where
      go : (xs : List T) (rest : List (ℕ × List T)) → first_item xs ≡ Some x
          → first_item (entries_of ((at, xs) ∷ rest)) ≡ Some (at, x)
      go [] rest f = cc
      go (y ∷ xs) rest f = ap (option_map (λ z. (at, z))) f

pub nat_le-true : (a b : ℕ) → a ≤ b → nat_le a b ≡ true
nat_le-true a b h = grind (arith, nat_tests)

-- what taking the first entry away does, to the groups and to the entries
module _ {T : Type 0} (at : ℕ) (ms : List (ℕ × List T)) (f : FirstGroup at ms) where
  pub first_looked_up : lookup (is_at (nat_cmp at)) ms ≡ Some (f.item ∷ f.items)
  first_looked_up = rw (f.is, is_at-equal at) refl

  pub first_due_is : (t : ℕ) → at ≤ t → first_due t (entries_of ms) ≡ Some (at, f.item)
  first_due_is t h = rw (f.is, nat_le-true at t h) refl

  pub without_due_is : (t : ℕ) → at ≤ t → without_due t (entries_of ms) ≡ entries_at at f.items
      ++ entries_of f.rest
  without_due_is t h = rw (f.is, nat_le-true at t h) refl

  pub first_written : (w : List T) → entries_of (set_value (is_at (nat_cmp at)) ms w) ≡ entries_at
      at w ++ entries_of f.rest
  first_written w = rw (f.is, is_at-equal at) refl

  pub first_dropped : (w : List T)
      → entries_of (remove_entry (is_at (nat_cmp at)) (set_value (is_at (nat_cmp at)) ms w))
      ≡ entries_of f.rest
  first_dropped w = rw (f.is, is_at-equal at) (rw (is_at-equal at) refl)

-- ---- what lies beyond a moment

pub is_lt-nat_cmp : (a b : ℕ) → is_lt (nat_cmp a b) ≡ nat_lt a b
is_lt-nat_cmp a b = elim (cases_order a b) [
  | inl eq ↦ rw (eq, nat_cmp-equal b, nat_lt-false b b (omega arith)) refl
  | inr ne ↦ elim ne [
    | inl lt ↦ rw (nat_cmp-less a b lt, nat_lt-true a b lt) refl
    | inr gt ↦ rw (nat_cmp-greater a b gt, nat_lt-false a b (omega arith)) refl
  ]
]

pub filter-same : {X : Type 0} (p q : X → Bool) → ((x : X) → p x ≡ q x) → (xs : List X)
    → filter p xs ≡ filter q xs
filter-same p q same [] = refl
filter-same p q same (x ∷ xs) =
    rw (same x) (ap (λ l. cond (q x) (x ∷ l) l) (filter-same p q same xs))

module _ {T : Type 0} (cmp : T → T → Ordering) (at : ℕ) where
  none_beyond : (n : ℕ) (xs : List T) (rest : List (ℕ × T)) → nat_lt at n ≡ false
      → first_beyond at (entries_at n xs ++ rest) ≡ first_beyond at rest
  none_beyond n [] rest h = refl
  none_beyond n (x ∷ xs) rest h = rw h (none_beyond n xs rest h)

  pub first_beyond-entries_of : (ms : List (ℕ × List T)) → AreGroups cmp ms
      → first_beyond at (entries_of ms) ≡ first_item (entries_of (filter (λ m. nat_lt at m.0) ms))
  first_beyond-entries_of [] h = refl
  first_beyond-entries_of (m ∷ ms) h =
      go (first_beyond-entries_of ms h.3) (nat_lt at m.0) refl m.1 h.0
    where
      go : first_beyond at (entries_of ms)
          ≡ first_item (entries_of (filter (λ m. nat_lt at m.0) ms)) → (b : Bool)
          → nat_lt at m.0 ≡ b → (xs : List T) → 0 < length xs
          → first_beyond at (entries_at m.0 xs ++ entries_of ms)
          ≡ first_item (entries_of (cond b ((m.0, xs) ∷ filter (λ m. nat_lt at m.0) ms)
          (filter (λ m. nat_lt at m.0) ms)))
      go rest true e [] some = absurd (omega arith)
      go rest true e (x ∷ xs) some = rw e refl
      go rest false e xs some = none_beyond m.0 xs (entries_of ms) e ∙ rest

  -- each group beyond has an item
  pub some_beyond : (ms : List (ℕ × List T)) → AreGroups cmp ms
      → AllByRecursion (λ m. 0 < length m.1) (filter (λ m. nat_lt at m.0) ms)
  some_beyond [] h = tt
  some_beyond (m ∷ ms) h = elim (nat_lt at m.0) as (λ b. AllByRecursion (λ m. 0 < length m.1)
      (cond b (m ∷ filter (λ m. nat_lt at m.0) ms) (filter (λ m. nat_lt at m.0) ms))) [
        | true ↦ (h.0, some_beyond ms h.3)
        | false ↦ some_beyond ms h.3
      ]

-- an entry of the first of some groups
module _ {T : Type 0} (at : ℕ) (x : T) where
  pub first-of_groups : (xs : List T) (ms rest : List (ℕ × List T)) → ms ≡ (at, xs) ∷ rest
      → first_item xs ≡ Some x → first_item (entries_of ms) ≡ Some (at, x)
  first-of_groups xs ms rest is f = ap (λ ns. first_item (entries_of ns)) is ∙ head_of xs rest f
    where
      head_of : (xs : List T) (rest : List (ℕ × List T)) → first_item xs ≡ Some x
          → first_item (entries_of ((at, xs) ∷ rest)) ≡ Some (at, x)
      head_of [] rest f = cc
      head_of (y ∷ xs) rest f = ap (option_map (λ z. (at, z))) f

-- a group with an item has a first
pub not_none : {T : Type 0} (xs : List T) → 0 < length xs → first_item xs ≡ None → ⊥
not_none [] h e = omega arith
not_none (x ∷ xs) h e = cc

pub some_shown : {T : Type 0} (cmp : T → T → Ordering) (at : ℕ) (xs : List T)
    (ms : List (ℕ × List T)) → AreGroups cmp ms → slice_get ms 0 ≡ Some (at, xs) → 0 < length xs
some_shown cmp at xs ms h e = let (rest, is) = shown_head cmp (at, xs) ms e in
    (subst (AreGroups cmp) is h).0

-- ---- what a wheel does with its slots

module _ {T : Type 0} (cmp : T → T → Ordering) where
  -- each moment has an entry or more
  pub as_many_entries : (ms : List (ℕ × List T)) → AreGroups cmp ms
      → length ms ≤ length (entries_of ms)
  as_many_entries [] h = omega arith
  as_many_entries (m ∷ ms) h = one_more m.1 h.0 (as_many_entries ms h.3)
    where
      one_more : (xs : List T) → 0 < length xs → length ms ≤ length (entries_of ms)
          → length (m ∷ ms) ≤ length (entries_at m.0 xs ++ entries_of ms)
      one_more [] some rest = absurd (omega arith)
      one_more (x ∷ xs) some rest = omega (arith, length-append (entries_at m.0 xs) (entries_of ms))

module _ {T : Type 0} (cmp : T → T → Ordering) where
  pub none-entries_of : (ms : List (ℕ × List T)) → AreGroups cmp ms → entries_of ms ≡ [] → ms ≡ []
  none-entries_of [] h e = refl
  none-entries_of (m ∷ ms) h e = go m.1 h.0 e
    where
      go : (xs : List T) → 0 < length xs → entries_at m.0 xs ++ entries_of ms ≡ [] → m ∷ ms ≡ []
      go [] some e = absurd (omega arith)
      go (x ∷ xs) some e = cc

  pub empty_length : {X : Type 0} (xs : List X) → length xs ≡ 0 → xs ≡ []
  empty_length [] h = refl
  empty_length (x ∷ xs) h = absurd (omega arith)

  -- the last group, by a look at the last place
  pub last_shown : (m : ℕ × List T) (ms : List (ℕ × List T)) → slice_get ms (length ms - 1) ≡ Some m
      → (front : List (ℕ × List T)) × (ms ≡ front ++ m ∷ [])
  last_shown m [] e = cc
  last_shown m (n ∷ []) e = ([], unwrapped e)
    where
      unwrapped : Some n ≡ Some m → n ∷ [] ≡ m ∷ []
      unwrapped e = cc
  last_shown m (n ∷ o ∷ ms) e =
      let index : length (n ∷ o ∷ ms) - 1 ≡ suc (length (o ∷ ms) - 1) = omega arith in
      let inner : slice_get (o ∷ ms) (length (o ∷ ms) - 1) ≡ Some m =
      subst (λ i. slice_get (n ∷ o ∷ ms) i ≡ Some m) index e in
      let (front, is) = last_shown m (o ∷ ms) inner in
      (n ∷ front, ap (λ l. n ∷ l) is)

  -- groups before one have earlier moments
  pub before_last : (front : List (ℕ × List T)) (m : ℕ × List T) → AreGroups cmp (front ++ m ∷ [])
      → AllByRecursion (λ n. n.0 ≤ m.0) (front ++ m ∷ [])
  before_last [] m h = (omega arith, tt)
  before_last (n ∷ front) m h = (
    omega (arith, (all-right (λ k. n.0 < k.0) front (m ∷ []) h.2).0),
    before_last front m h.3,
  )

  has_last : (front : List (ℕ × List T)) (m : ℕ × List T) → AreGroups cmp (front ++ m ∷ [])
      → list_any (λ e. e.0 == m.0) (entries_of (front ++ m ∷ [])) ≡ true
  has_last front m h = rw (entries_of-append front (m ∷ []))
      (any_right (λ e. e.0 == m.0) (entries_of front) (entries_of (m ∷ []))
      (go m.1 (groups-right cmp front (m ∷ []) h).0))
    where
      go : (xs : List T) → 0 < length xs
          → list_any (λ e. e.0 == m.0) (entries_at m.0 xs ++ []) ≡ true
      go [] some = absurd (omega arith)
      go (x ∷ xs) some = rw (eq-eqb m.0 m.0 refl) refl

  pub spans_groups : (first last : ℕ) (xs ys : List T) (ms : List (ℕ × List T)) → AreGroups cmp ms
      → slice_get ms 0 ≡ Some (first, xs) → slice_get ms (length ms - 1) ≡ Some (last, ys)
      → SpansEntries (entries_of ms) (first, last)
  spans_groups first last xs ys ms h e f =
      let (front, is) = last_shown (last, ys) ms f in
      record {
        first = first_shown cmp first xs ms h e;
        last = subst (λ ns. list_any (λ d. d.0 == last) (entries_of ns) ≡ true) (sym is)
            (has_last front (last, ys) (subst (AreGroups cmp) is h));
        bound = subst (λ ns. AllByRecursion (λ d. d.0 ≤ last) (entries_of ns)) (sym is)
            (all-entries_of (λ n. n ≤ last) (front ++ (last, ys) ∷ [])
            (before_last front (last, ys) (subst (AreGroups cmp) is h)));
      }

pub all-filter : {X : Type 0} (p : X → Bool) (xs : List X)
    → AllByRecursion (λ x. p x ≡ true) (filter p xs)
all-filter p [] = tt
all-filter p (x ∷ xs) = go (p x) refl (all-filter p xs)
  where
    go : (b : Bool) → p x ≡ b → AllByRecursion (λ x. p x ≡ true) (filter p xs)
        → AllByRecursion (λ x. p x ≡ true) (cond b (x ∷ filter p xs) (filter p xs))
    go true e rest = (e, rest)
    go false e rest = rest

pub gt_means : (a b : ℕ) → is_gt (nat_cmp a b) ≡ true → b < a
gt_means a b h = elim (cases_order a b) [
  | inl eq ↦ cc (rw (eq, nat_cmp-equal b) at h)
  | inr ne ↦ elim ne [
    | inl lt ↦ cc (rw (nat_cmp-less a b lt) at h)
    | inr gt ↦ gt
  ]
]

pub le_means : (a b : ℕ) → is_le (nat_cmp a b) ≡ true → a ≤ b
le_means a b h = elim (cases_order a b) [
  | inl eq ↦ omega arith
  | inr ne ↦ elim ne [
    | inl lt ↦ omega arith
    | inr gt ↦ cc (rw (nat_cmp-greater a b gt) at h)
  ]
]
