-- What is left of an ascending list beyond its next entry.
use Rattle.std.proofs.Common.{◌≡◌, ℕ, ◌<◌, ◌≤◌, Bool, true, false, cond, List, [], ◌∷◌, length}
use Rattle.std.proofs.Common.{refl, ap}
use Rattle.std.proofs.Common.{sym, ◌∙◌, subst, arith, inl, inr, ⊎_elim}
use Rattle.std.specs.Prelude.{Option, Some, None, filter}
use Rattle.std.specs.declared.cmp.Ordering.{Ordering}
use Rattle.std.specs.declared.cmp.Ordering.TheVariants.{Less, Equal, Greater}
use Rattle.std.specs.Cmp.{IsTotalOrder}
use Rattle.std.specs.Ordering.{is_lt}
use Rattle.std.specs.List.{AllByRecursion, find}
use Rattle.std.specs.List.Sorted.{IsStrictlySortedBy}
use Rattle.std.proofs.lemmas.Bool.{cases_lt, false≢true}
use Rattle.std.proofs.lemmas.Cmp.{on_total, then_total, nat_cmp_total, tied_itself}
use Rattle.expiry_wheel.specs.Entries.{entry_cmp, IsInOrder, first_above}
use Rattle.expiry_wheel.specs.Items.{AreFromFirst, first_item, without_first}
use Rattle.expiry_wheel.specs.Merge.{left_from, merged, second_comes_first}
use Rattle.expiry_wheel.proofs.Grouped.{nat_cmp-greater}
use Rattle.expiry_wheel.proofs.Lists.{all-imply}

module _ {X : Type 0} (c : X → X → Ordering) (o : IsTotalOrder c) where
  all_above : (x : X) (xs : List X) → AllByRecursion (λ y. c x y ≡ Less) xs
      → filter (λ y. is_lt (c x y)) xs ≡ xs
  all_above x [] h = refl
  all_above x (y ∷ xs) h = rw h.0 (ap (λ l. y ∷ l) (all_above x xs h.1))

  found_among : (P : X → Type 0) (p : X → Bool) (e : X) (xs : List X) → AllByRecursion P xs
      → find p xs ≡ Some e → P e
  found_among P p e [] h k = cc
  found_among P p e (x ∷ xs) h k = go (p x) (λ k. found_among P p e xs h.1 k) h.0 k
    where
      go : (b : Bool) → (find p xs ≡ Some e → P e) → P x → cond b (Some x) (find p xs)
          ≡ Some e → P e
      go true rest here k = let same : x ≡ e = cc in subst P same here
      go false rest here k = rest k

  not_above : (x e : X) → c x e ≡ Less → is_lt (c e x) ≡ false
  not_above x e h = rw (o.antisymm e x, h) refl

  -- beyond g: the first of them, and those beyond that
  pub beyond_found : (g e : X) (xs : List X) → IsStrictlySortedBy c xs
      → find (λ x. is_lt (c g x)) xs ≡ Some e → filter (λ x. is_lt (c g x)) xs
      ≡ e ∷ filter (λ x. is_lt (c e x)) xs
  unfolding IsStrictlySortedBy
  beyond_found g e [] h k = cc
  beyond_found g e (x ∷ xs) h k = go (c g x) refl (λ k. beyond_found g e xs h.1 k) k
    where
      go : (r : Ordering) → c g x ≡ r
          → (find (λ x. is_lt (c g x)) xs ≡ Some e → filter (λ x. is_lt (c g x)) xs
          ≡ e ∷ filter (λ x. is_lt (c e x)) xs)
          → cond (is_lt r) (Some x) (find (λ x. is_lt (c g x)) xs) ≡ Some e
          → cond (is_lt r) (x ∷ filter (λ x. is_lt (c g x)) xs) (filter (λ x. is_lt (c g x)) xs)
          ≡ e ∷ cond (is_lt (c e x)) (x ∷ filter (λ x. is_lt (c e x)) xs)
          (filter (λ x. is_lt (c e x)) xs)
      go Less r rest k =
          let same : x ≡ e = cc in
          let later : filter (λ y. is_lt (c g y)) xs ≡ xs =
          all_above g xs (all-imply (λ y. c x y ≡ Less) (λ y. c g y ≡ Less)
          (λ y l. o.trans g x y r l) xs h.0) in
          subst (λ d. x ∷ filter (λ y. is_lt (c g y)) xs ≡ d ∷ cond (is_lt (c d x))
          (x ∷ filter (λ y. is_lt (c d y)) xs) (filter (λ y. is_lt (c d y)) xs)) same
          (rw (tied_itself o x) (ap (λ l. x ∷ l) (later ∙ sym (all_above x xs h.0))))
      go Equal r rest k = rest k ∙ ap (λ b. e ∷ cond b (x ∷ filter (λ x. is_lt (c e x)) xs)
          (filter (λ x. is_lt (c e x)) xs))
          (sym (not_above x e (found_among (λ y. c x y ≡ Less) (λ x. is_lt (c g x)) e xs h.0 k)))
      go Greater r rest k = rest k ∙ ap (λ b. e ∷ cond b (x ∷ filter (λ x. is_lt (c e x)) xs)
          (filter (λ x. is_lt (c e x)) xs))
          (sym (not_above x e (found_among (λ y. c x y ≡ Less) (λ x. is_lt (c g x)) e xs h.0 k)))

  pub beyond_none : (g : X) (xs : List X) → find (λ x. is_lt (c g x)) xs ≡ None
      → filter (λ x. is_lt (c g x)) xs ≡ []
  beyond_none g [] k = refl
  beyond_none g (x ∷ xs) k = go (is_lt (c g x)) (λ k. beyond_none g xs k) k
    where
      go : (b : Bool) → (find (λ x. is_lt (c g x)) xs ≡ None → filter (λ x. is_lt (c g x)) xs ≡ [])
          → cond b (Some x) (find (λ x. is_lt (c g x)) xs) ≡ None
          → cond b (x ∷ filter (λ x. is_lt (c g x)) xs) (filter (λ x. is_lt (c g x)) xs) ≡ []
      go true rest k = cc
      go false rest k = rest k

-- entries are totally ordered where their items are
pub entries_total : {T : Type 0} (cmp : T → T → Ordering) → IsTotalOrder cmp
    → IsTotalOrder (entry_cmp cmp)
entries_total cmp o = then_total (on_total (λ e. e.0) nat_cmp_total) (on_total (λ e. e.1) o)

module _ {T : Type 0} (cmp : T → T → Ordering) (o : IsTotalOrder cmp) (entries : List (ℕ × T))
    (ascending : IsInOrder cmp entries) where
  -- what is left beyond an entry begins at the first entry above it
  pub left_beyond : (given : ℕ × T) (next : Option (ℕ × T))
      → next ≡ first_above cmp (Some given) entries → left_from cmp next entries
      ≡ filter (λ e. is_lt (entry_cmp cmp given e)) entries
  left_beyond given None h = sym (beyond_none (entry_cmp cmp) (entries_total cmp o) given
      entries (sym h))
  left_beyond given (Some e) h =
      sym (beyond_found (entry_cmp cmp) (entries_total cmp o) given e entries ascending (sym h))

-- at the start all is left
pub left_at_start : {T : Type 0} (cmp : T → T → Ordering) (o : IsTotalOrder cmp)
    (entries : List (ℕ × T)) → IsInOrder cmp entries → (next : Option (ℕ × T))
    → next ≡ first_above cmp None entries → left_from cmp next entries ≡ entries
unfolding IsStrictlySortedBy
left_at_start cmp o [] h next e = ap (λ n. left_from cmp n []) e
left_at_start cmp o (x ∷ entries) h next e =
    ap (λ n. left_from cmp n (x ∷ entries)) e
    ∙ ap (λ l. x ∷ l) (rw (tied_itself (entries_total cmp o) x)
    (all_above (entry_cmp cmp) (entries_total cmp o) x entries h.0))

-- ---- what is left has no earlier moment than its first entry

not_earlier : {T : Type 0} (cmp : T → T → Ordering) (e f : ℕ × T)
    → is_lt (entry_cmp cmp e f) ≡ true → e.0 ≤ f.0
not_earlier cmp e f h = ⊎_elim (λ less. absurd (false≢true (rw (nat_cmp-greater e.0 f.0 less)
    at h))) (λ most. most) (cases_lt f.0 e.0)

above : {T : Type 0} (cmp : T → T → Ordering) (e : ℕ × T) (entries : List (ℕ × T))
    → AllByRecursion (λ f. e.0 ≤ f.0) (filter (λ f. is_lt (entry_cmp cmp e f)) entries)
above cmp e [] = tt
above cmp e (f ∷ entries) = go (is_lt (entry_cmp cmp e f)) (not_earlier cmp e f)
    (above cmp e entries)
  where
    go : (b : Bool) → (b ≡ true → e.0 ≤ f.0)
        → AllByRecursion (λ f. e.0 ≤ f.0) (filter (λ f. is_lt (entry_cmp cmp e f)) entries)
        → AllByRecursion (λ f. e.0 ≤ f.0)
        (cond b (f ∷ filter (λ f. is_lt (entry_cmp cmp e f)) entries)
        (filter (λ f. is_lt (entry_cmp cmp e f)) entries))
    go true le rest = (le refl, rest)
    go false le rest = rest

pub from_first : {T : Type 0} (cmp : T → T → Ordering) (next : Option (ℕ × T))
    (entries : List (ℕ × T)) → AreFromFirst (left_from cmp next entries)
from_first cmp None entries = tt
from_first cmp (Some e) entries = above cmp e entries

-- ---- one step of a merge

module _ {T U : Type 0} (first_cmp : T → T → Ordering) (second_cmp : U → U → Ordering) where
  pub merged_second : (next : Option (ℕ × T)) (firsts : List (ℕ × T)) (y : ℕ
      × U) (seconds : List (ℕ × U)) → second_comes_first next (Some y) ≡ true
      → merged (left_from first_cmp next firsts) (y ∷ seconds)
      ≡ inr y ∷ merged (left_from first_cmp next firsts) seconds
  merged_second None firsts y seconds h = refl
  merged_second (Some x) firsts y seconds h = rw h refl

  pub merged_first : (x : ℕ × T) (firsts : List (ℕ × T)) (next : Option (ℕ × U))
      (seconds : List (ℕ × U)) → second_comes_first (Some x) next ≡ false
      → merged (x ∷ firsts) (left_from second_cmp next seconds) ≡ inl x ∷ merged firsts
      (left_from second_cmp next seconds)
  merged_first x firsts None seconds h = refl
  merged_first x firsts (Some y) seconds h = rw h refl

-- what is left is shorter by one
pub shorter : {X : Type 0} (s t : List X) (x : X) → s ≡ x ∷ t → length t < length s
shorter s t x e = rw e (omega arith)

-- entries whose first one is known
pub first_and_rest : {X : Type 0} (xs : List X) (x : X) → Some x ≡ first_item xs
    → xs ≡ x ∷ without_first xs
first_and_rest [] x h = absurd cc
first_and_rest (y ∷ xs) x h = let same : y ≡ x = cc in ap (λ z. z ∷ xs) same
