-- An index of bounds, as the bounds change.
use Rattle.std.proofs.Common.{◌≡◌, ℕ, ◌<◌, ◌≤◌, Bool, true, false, cond, not, ◌&&◌, ◌||◌, ◌==◌}
use Rattle.std.proofs.Common.{List, Option, Some, None, refl, sym, ap, ◌∙◌, subst}
use Rattle.std.specs.Prelude.{◌≢◌}
use Rattle.std.proofs.lemmas.Bool.{eqb-true}
use Rattle.std.proofs.lemmas.Cmp.{eq_by_cmp_equiv, nat_list_cmp_total}
use Rattle.std.proofs.lemmas.Map.Lookups.{exact_bytes}
use Rattle.std.specs.BTreeMap.{is_at}
use Rattle.std.specs.Cmp.{unsigned_ties}
use Rattle.std.specs.Cmp.Lexicographic.{slice_cmp}
use Rattle.std.specs.List.{AllByRecursion}
use Rattle.std.specs.Option.{IsSomeAnd, option_map}
use Rattle.std.specs.Ordering.{is_eq, nat_cmp}
use Rattle.expiry_wheel.proofs.Left.{entries_total}
use Rattle.expiry_wheel.proofs.Members.{any-insert_key, any-remove_key, exact_entry, tells}
use Rattle.expiry_wheel.specs.Entries.{IsInOrder, entry_cmp, has_entry, with_entry, without_entry}
use Rattle.fleet_model.proofs.Entries.{equal_from}
use Rattle.fleet_model.specs.Seats.{is_number}
use Rattle.ranked.proofs.Members.{each_among}
use Rattle.ranked.specs.Bounds.{AreAllBounded, IsIndexOf, zeros_at}
use Rattle.ranked.specs.Walk.{AreBounds, bound_of}

abbrev Index : Type 0
Index = List (ℕ × List ℕ)

abbrev KeyBounds : Type 0
KeyBounds = List (List ℕ × ℕ)

-- a key's zeros become these
abbrev pub Becomes : KeyBounds → KeyBounds → List ℕ → Option ℕ → Type 0
Becomes old new key zeros = (q : List ℕ) → zeros_at new q ≡ cond (is_at (slice_cmp nat_cmp key) q)
    zeros (zeros_at old q)

has_with : (index : Index) (e x : ℕ × List ℕ)
    → has_entry (slice_cmp nat_cmp) (with_entry (slice_cmp nat_cmp) index x) e
    ≡ (is_eq (entry_cmp (slice_cmp nat_cmp) e x) || has_entry (slice_cmp nat_cmp) index e)
has_with index e x = any-insert_key (entry_cmp (slice_cmp nat_cmp))
    (entries_total (slice_cmp nat_cmp) nat_list_cmp_total) exact_entry e x index

has_without : (index : Index) (e x : ℕ × List ℕ) → IsInOrder (slice_cmp nat_cmp) index
    → has_entry (slice_cmp nat_cmp) (without_entry (slice_cmp nat_cmp) index x) e
    ≡ (has_entry (slice_cmp nat_cmp) index e && not (is_eq (entry_cmp (slice_cmp nat_cmp) e x)))
has_without index e x ordered = any-remove_key (entry_cmp (slice_cmp nat_cmp))
    (entries_total (slice_cmp nat_cmp) nat_list_cmp_total) exact_entry e x index ordered

same_at : (old : KeyBounds) (key q : List ℕ) → is_at (slice_cmp nat_cmp key) q ≡ true
    → zeros_at old q ≡ zeros_at old key
same_at old key q same = ap (zeros_at old) (sym (exact_bytes key q (equal_from _ same)))

turned : (a b : ℕ) → (a == b) ≡ (b == a)
turned a b = unsigned_ties a b ∙ (eq_by_cmp_equiv Rattle.std.specs.Cmp.nat_cmp_total).symm a b
    ∙ sym (unsigned_ties b a)

-- ---- a key gets a first bound
put_tells : (same : Bool) (at zeros : ℕ) (kept : Option ℕ) → (same ≡ true → kept ≡ None)
    → (((at == zeros) && same) || is_number kept at) ≡ is_number (cond same (Some zeros) kept) at
put_tells true at zeros kept none = rw (none refl) (by (at == zeros)) ∙ turned at zeros
  where
    by : (b : Bool) → ((b && true) || false) ≡ b
    by true = refl
    by false = refl
put_tells false at zeros kept none = by (at == zeros)
  where
    by : (b : Bool) → ((b && false) || is_number kept at) ≡ is_number kept at
    by true = refl
    by false = refl

pub put_indexed : (index : Index) (old new : KeyBounds) (key : List ℕ) (zeros : ℕ) → IsIndexOf index
    old → zeros_at old key ≡ None → Becomes old new key (Some zeros)
    → IsIndexOf (with_entry (slice_cmp nat_cmp) index (zeros, key)) new
put_indexed index old new key zeros indexed none becomes e =
    has_with index e (zeros, key)
    ∙ ap (λ b. b || has_entry (slice_cmp nat_cmp) index e) (tells e zeros key)
    ∙ ap (λ b. ((e.0 == zeros) && is_at (slice_cmp nat_cmp key) e.1) || b) (indexed e)
    ∙ put_tells (is_at (slice_cmp nat_cmp key) e.1) e.0 zeros (zeros_at old e.1)
    (λ same. same_at old key e.1 same ∙ none)
    ∙ ap (λ kept. is_number kept e.0) (sym (becomes e.1))

-- ---- and it is taken back
back_tells : (here there : Bool) → (here ≡ true → there ≡ false)
    → ((here || there) && not here) ≡ there
back_tells true there none = sym (none refl)
back_tells false true none = refl
back_tells false false none = refl

none_there : (e : ℕ × List ℕ) (old : KeyBounds) (zeros : ℕ) (key : List ℕ) → zeros_at old key ≡ None
    → is_eq (entry_cmp (slice_cmp nat_cmp) e (zeros, key)) ≡ true
    → is_number (zeros_at old e.1) e.0 ≡ false
none_there e old zeros key none here =
    let is : e ≡ (zeros, key) = exact_entry e (zeros, key) (equal_from _ here) in
    ap (λ (f : ℕ × List ℕ). is_number (zeros_at old f.1) f.0) is
    ∙ ap (λ kept. is_number kept zeros) none

pub back_indexed : (index planned : Index) (old : KeyBounds) (key : List ℕ) (zeros : ℕ)
    → IsIndexOf index old → zeros_at old key ≡ None → planned ≡ with_entry (slice_cmp nat_cmp) index
    (zeros, key) → IsInOrder (slice_cmp nat_cmp) planned
    → IsIndexOf (without_entry (slice_cmp nat_cmp) planned (zeros, key)) old
back_indexed index planned old key zeros indexed none is ordered e =
    let here = is_eq (entry_cmp (slice_cmp nat_cmp) e (zeros, key)) in
    has_without planned e (zeros, key) ordered
    ∙ ap (λ l. has_entry (slice_cmp nat_cmp) l e && not here) is
    ∙ ap (λ b. b && not here) (has_with index e (zeros, key))
    ∙ ap (λ b. (here || b) && not here) (indexed e)
    ∙ back_tells here (is_number (zeros_at old e.1) e.0) (none_there e old zeros key none)

-- ---- a key's bound becomes another
both_tell : (same : Bool) (at before after : ℕ) (kept : Option ℕ) → before ≢ after
    → (same ≡ true → kept ≡ Some before)
    → ((((at == after) && same) || is_number kept at) && not ((at == before) && same))
    ≡ is_number (cond same (Some after) kept) at
both_tell true at before after kept other is =
    rw (is refl) (by (at == after) refl (at == before) refl) ∙ turned at after
  where
    by : (a : Bool) → (at == after) ≡ a → (b : Bool) → (at == before) ≡ b
        → (((a && true) || (before == at)) && not (b && true)) ≡ a
    by true is_after true is_before =
        absurd (other (sym (eqb-true at before is_before) ∙ eqb-true at after is_after))
    by true is_after false not_before = refl
    by false not_after true is_before = and_no (before == at)
      where
        and_no : (b : Bool) → (b && false) ≡ false
        and_no true = refl
        and_no false = refl
    by false not_after false not_before = rw (turned before at, not_before) refl
both_tell false at before after kept other is = by (at == after) (at == before) (is_number kept at)
  where
    by : (a b c : Bool) → (((a && false) || c) && not (b && false)) ≡ c
    by true true true = refl
    by true true false = refl
    by true false true = refl
    by true false false = refl
    by false true true = refl
    by false true false = refl
    by false false true = refl
    by false false false = refl

pub moved_indexed : (index planned : Index) (old new : KeyBounds) (key : List ℕ) (before after : ℕ)
    → IsIndexOf index old → zeros_at old key ≡ Some before → before ≢ after
    → planned ≡ with_entry (slice_cmp nat_cmp) index (after, key)
    → IsInOrder (slice_cmp nat_cmp) planned → Becomes old new key (Some after)
    → IsIndexOf (without_entry (slice_cmp nat_cmp) planned (before, key)) new
moved_indexed index planned old new key before after indexed had other is ordered becomes e =
    let same = is_at (slice_cmp nat_cmp key) e.1 in
    has_without planned e (before, key) ordered
    ∙ ap (λ l. has_entry (slice_cmp nat_cmp) l e
    && not (is_eq (entry_cmp (slice_cmp nat_cmp) e (before, key)))) is
    ∙ ap (λ b. b && not (is_eq (entry_cmp (slice_cmp nat_cmp) e (before, key))))
    (has_with index e (after, key)
    ∙ ap (λ b. is_eq (entry_cmp (slice_cmp nat_cmp) e (after, key)) || b) (indexed e)
    ∙ ap (λ b. b || is_number (zeros_at old e.1) e.0) (tells e after key))
    ∙ ap (λ b. (((e.0 == after) && same) || is_number (zeros_at old e.1) e.0) && not b)
    (tells e before key)
    ∙ both_tell same e.0 before after (zeros_at old e.1) other (λ here. same_at old key e.1 here
    ∙ had)
    ∙ ap (λ kept. is_number kept e.0) (sym (becomes e.1))

-- ---- a key's bound is taken away
none_tells : (same : Bool) (at zeros : ℕ) (kept : Option ℕ) → (same ≡ true → kept ≡ Some zeros)
    → (is_number kept at && not ((at == zeros) && same)) ≡ is_number (cond same None kept) at
none_tells true at zeros kept is = rw (is refl, turned zeros at) (by (at == zeros))
  where
    by : (b : Bool) → (b && not (b && true)) ≡ false
    by true = refl
    by false = refl
none_tells false at zeros kept is = by (is_number kept at) (at == zeros)
  where
    by : (a b : Bool) → (a && not (b && false)) ≡ a
    by true true = refl
    by true false = refl
    by false true = refl
    by false false = refl

pub dropped_indexed : (index : Index) (old new : KeyBounds) (key : List ℕ) (zeros : ℕ)
    → IsIndexOf index old → zeros_at old key ≡ Some zeros → IsInOrder (slice_cmp nat_cmp) index
    → Becomes old new key None → IsIndexOf (without_entry (slice_cmp nat_cmp) index (zeros, key))
    new
dropped_indexed index old new key zeros indexed had ordered becomes e =
    let same = is_at (slice_cmp nat_cmp key) e.1 in
    has_without index e (zeros, key) ordered
    ∙ ap (λ b. b && not (is_eq (entry_cmp (slice_cmp nat_cmp) e (zeros, key)))) (indexed e)
    ∙ ap (λ b. is_number (zeros_at old e.1) e.0 && not b) (tells e zeros key)
    ∙ none_tells same e.0 zeros (zeros_at old e.1) (λ here. same_at old key e.1 here ∙ had)
    ∙ ap (λ kept. is_number kept e.0) (sym (becomes e.1))

-- ---- what the index has
number_is : (kept : Option ℕ) (n : ℕ) → is_number kept n ≡ true → kept ≡ Some n
number_is None n e = cc
number_is (Some m) n e = ap Some (eqb-true m n e)

pub entries_kept : (index : Index) (kept : KeyBounds) → IsIndexOf index kept
    → AllByRecursion (λ e. zeros_at kept e.1 ≡ Some e.0) index
entries_kept index kept indexed =
    each_among (entry_cmp (slice_cmp nat_cmp))
    (entries_total (slice_cmp nat_cmp) nat_list_cmp_total) (λ e. zeros_at kept e.1
    ≡ Some e.0) index
    (λ e there. number_is (zeros_at kept e.1) e.0 (sym (indexed e) ∙ there))

pub bounds_hold : (index : Index) (kept : KeyBounds) (living value : List ℕ → ℕ) → IsIndexOf index
    kept → AreAllBounded kept living value → AreBounds living value index
bounds_hold index kept living value indexed bounded =
    each_among (entry_cmp (slice_cmp nat_cmp))
    (entries_total (slice_cmp nat_cmp) nat_list_cmp_total) (λ e. 0 < living e.1
    → value e.1 ≤ bound_of e.0) index
    (λ e there lives. subst (λ zeros. IsSomeAnd (option_map bound_of zeros)
    (λ bound. value e.1 ≤ bound)) (number_is (zeros_at kept e.1) e.0 (sym (indexed e) ∙ there))
    (bounded e.1 lives))
