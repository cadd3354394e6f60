-- The items of one moment, in order.
use Rattle.std.specs.Prelude.{◌≡◌, ℕ, ◌≤◌, List, [], ◌∷◌, Option, Some, None, IfNone}
use Rattle.std.specs.declared.cmp.Ordering.{Ordering}
use Rattle.std.specs.Ordering.{is_lt}
use Rattle.std.specs.List.{AllByRecursion, find}
use Rattle.std.specs.List.Sorted.{IsStrictlySortedBy}

abbrev pub first_item : {T : Type 0} → List T → Option T
first_item [] = None
first_item (x ∷ xs) = Some x

abbrev pub without_first : {T : Type 0} → List T → List T
without_first [] = []
without_first (x ∷ xs) = xs

-- no entry has an earlier moment than the first
abbrev pub AreFromFirst : {T : Type 0} → List (ℕ × T) → Type 0
AreFromFirst [] = Unit {0}
AreFromFirst (e ∷ entries) = AllByRecursion (λ f. e.0 ≤ f.0) entries

-- the first item above the given one
abbrev pub first_item_above : {T : Type 0} → (T → T → Ordering) → T → List T → Option T
first_item_above cmp given items = find (λ x. is_lt (cmp given x)) items

-- a first item, if there is one, and the others
abbrev pub items_of : {T : Type 0} → Option T → List T → List T
items_of None others = others
items_of (Some x) others = x ∷ others

-- items ascend, the first and the others, and with no first there are no others
pub record AreTogether {T : Type 0} (cmp : T → T → Ordering) (first : Option T) (others : List T)
    : Type 0 where
  pub ordered : IsStrictlySortedBy cmp (items_of first others)
  pub none : IfNone first (others ≡ [])
