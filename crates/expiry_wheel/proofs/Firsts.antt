-- The items of one moment: a first one and the others.
use Rattle.std.proofs.Common.{◌≡◌, ◌<◌, ◌↔◌, Bool, false, List, [], ◌∷◌, length, refl, ap, sym, ◌∙◌}
use Rattle.std.proofs.Common.{subst, arith}
use Rattle.std.specs.Prelude.{Option, Some, None, IsSome, IfSome, IfNone, ◌==◌}
use Rattle.std.specs.declared.cmp.Ordering.{Ordering}
use Rattle.std.specs.declared.cmp.Ordering.TheVariants.{Less, Equal, Greater}
use Rattle.std.specs.Cmp.{IsTotalOrder}
use Rattle.std.specs.Ordering.{is_lt, ordering_index}
use Rattle.std.specs.List.Sorted.{IsStrictlySortedBy}
use Rattle.std.specs.BTreeSet.{insert_key}
use Rattle.std.specs.Set.{remove_key}
use Rattle.expiry_wheel.specs.Items.{first_item_above, items_of, AreTogether}
use Rattle.expiry_wheel.proofs.Lists.{all-imply, insert-first}
use Rattle.expiry_wheel.proofs.Slotted.{all-insert_key, sorted-insert_key, all-remove_key}
use Rattle.expiry_wheel.proofs.Slotted.{sorted-remove_key}

module _ {T : Type 0} (cmp : T → T → Ordering) where
  pub alone : (x : T) (others : List T) → others ≡ [] → AreTogether cmp (Some x) others
  unfolding IsStrictlySortedBy
  alone x others e = subst (λ l. AreTogether cmp (Some x) l) (sym e) record {
    ordered =
        (tt, tt);
    none = tt;
  }

  -- with no first there are no others
  pub none_there : (first : Option T) (others : List T) → AreTogether cmp first others
      → first ≡ None → others ≡ []
  none_there None others h e = h.none
  none_there (Some x) others h e = cc

  others_ordered : (first : Option T) (others : List T) → AreTogether cmp first others
      → IsStrictlySortedBy cmp others
  unfolding IsStrictlySortedBy
  others_ordered None others h = h.ordered
  others_ordered (Some x) others h = h.ordered.1

  -- an item before the first, which is then the first of the others
  pub before_first : IsTotalOrder cmp → (item first : T) (others : List T) → cmp item first ≡ Less
      → AreTogether cmp (Some first) others
      → AreTogether cmp (Some item) (insert_key cmp others first)
  unfolding IsStrictlySortedBy
  before_first o item first others e h =
      subst (λ l. AreTogether cmp (Some item) l) (sym (insert-first cmp first others h.ordered.0))
      record {
        ordered = (
          (
            e,
            all-imply (λ y. cmp first y ≡ Less) (λ y. cmp item y ≡ Less)
                (λ y l. o.trans item first y e l) others h.ordered.0,
          ),
          h.ordered,
        );
        none = tt;
      }

  pub put_before : (item first : T) (others : List T) → cmp item first ≡ Less
      → AreTogether cmp (Some first) others → item ∷ insert_key cmp others first
      ≡ insert_key cmp (first ∷ others) item
  unfolding IsStrictlySortedBy
  put_before item first others e h = ap (λ l. item ∷ l) (insert-first cmp first others h.ordered.0)
      ∙ sym (rw e refl)

  pub among_others : IsTotalOrder cmp → (item first : T) (others : List T)
      → cmp item first ≡ Greater → AreTogether cmp (Some first) others
      → AreTogether cmp (Some first) (insert_key cmp others item)
  unfolding IsStrictlySortedBy
  among_others o item first others e h = record {
    ordered = (
      all-insert_key cmp (λ y. cmp first y ≡ Less) others item h.ordered.0
          (rw (o.antisymm first item, e) refl),
      sorted-insert_key cmp o others item h.ordered.1,
    );
    none = tt;
  }

  pub without_other : (test : T → Bool) (first : Option T) (others : List T)
      → AreTogether cmp first others → AreTogether cmp first (remove_key test others)
  unfolding IsStrictlySortedBy
  without_other test None others h = subst (λ l. AreTogether cmp None (remove_key test l))
      (sym h.none) record { ordered = tt; none = refl }
  without_other test (Some x) others h =
      record {
        ordered = (
          all-remove_key test (λ y. cmp x y ≡ Less) others h.ordered.0,
          sorted-remove_key test cmp others h.ordered.1,
        );
        none = tt;
      }

  -- the others, once the first of them is the first
  pub next_first : (first : Option T) (others : List T) → AreTogether cmp first others
      → (next : Option T) (rest : List T) → (IsSome next ↔ (0 < length others))
      → IfSome next (λ x. others ≡ x ∷ rest) → IfNone next (rest ≡ others)
      → AreTogether cmp next rest
  unfolding IsStrictlySortedBy
  next_first first others h None rest some is none = let empty : others ≡ [] =
      no_items others (λ l. let e : IsSome {T = T} None = some.1 l in cc) in
      subst (λ l. AreTogether cmp None l) (sym (none ∙ empty)) no_first
    where
      no_items : (xs : List T) → (0 < length xs → ⊥) → xs ≡ []
      no_items [] f = refl
      no_items (x ∷ xs) f = absurd (f (omega arith))

      no_first : AreTogether cmp None []
      no_first = record { ordered = tt; none = refl }
  next_first first others h (Some x) rest some is none =
      record {
        ordered = subst (IsStrictlySortedBy cmp) is (others_ordered first others h);
        none =
            tt;
      }

  -- with the first not above an item, the first of the others that is
  pub above_first : (item : T) (first : Option T) (x : T) (others : List T) → first ≡ Some x
      → is_lt (cmp item x) ≡ false → first_item_above cmp item others ≡ first_item_above cmp item
      (items_of first others)
  above_first item None x others e h = cc
  above_first item (Some y) x others e h = let same : y ≡ x = cc in
      let not_above : is_lt (cmp item y) ≡ false = ap (λ z. is_lt (cmp item z)) same ∙ h in
      rw not_above refl

pub not_less : (r : Ordering) → (ordering_index r == 0) ≡ false → is_lt r ≡ false
not_less Less e = cc
not_less Equal e = refl
not_less Greater e = refl
