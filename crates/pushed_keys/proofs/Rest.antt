-- What is left of a list, item by item.
use Rattle.std.proofs.Common.{◌≡◌, ℕ, suc, ◌+◌, ◌<◌, List, [], ◌∷◌, ◌++◌, map, length, drop, get_or}
use Rattle.std.proofs.Common.{append_assoc, add-one, drop-cons, ap, sym, ◌∙◌, ◌≤◌, inl, inr}
use Rattle.std.proofs.Common.{arith}
use Rattle.std.proofs.lemmas.List.{get_or-map, get_or_past, length-map}
use Rattle.std.proofs.lemmas.Option.{get_or_from_slice_get, slice_get_cases, slice_get_within}
use Rattle.std.specs.Prelude.{None, Some, slice_get}

-- the item at hand, and what is left behind it
pub drop_here : {A : Type 0} (xs : List A) (i : ℕ) (x : A) → i < length xs → x ≡ get_or xs i x
    → drop i xs ≡ x ∷ drop (i + 1) xs
drop_here xs i x lt is =
    rw add-one (drop-cons xs i x lt ∙ ap (λ y. y ∷ drop (suc i) xs) (sym is))

-- the item that is found at a place, and what is left behind it
pub drop_found : {A : Type 0} (xs : List A) (i : ℕ) (x : A) → slice_get xs i ≡ Some x
    → drop i xs ≡ x ∷ drop (i + 1) xs
drop_found xs i x is =
    drop_here xs i x (slice_get_within xs i x is) (sym (get_or_from_slice_get xs i x x is))

-- where no item is found, the list has ended
pub none_from : {A : Type 0} (xs : List A) (i : ℕ) → slice_get xs i ≡ None → length xs ≤ i
none_from xs i none =
    elim (slice_get_cases xs i).1 [
      | inl there ↦ absurd (cc (none, there.2))
      | inr past ↦ past.0
    ]

-- what is done and what is still to be done, with one item more done
pub map_more : {A B : Type 0} (f : A → B) (done : List B) (xs : List A) (i : ℕ) (x : A)
    → i < length xs → x ≡ get_or xs i x
    → (done ++ f x ∷ []) ++ map f (drop (i + 1) xs) ≡ done ++ map f (drop i xs)
map_more f done xs i x lt is =
    rw (drop_here xs i x lt is) (append_assoc done (f x ∷ []) (map f (drop (i + 1) xs)))

-- what a list makes of its item at a place, and where it has none
pub some_at : {A B : Type 0} (f : A → B) (xs : List A) (i : ℕ) (x : A) (e : B) → i < length xs
    → x ≡ get_or xs i x → f x ≡ get_or (map f xs) i e
some_at f xs i x e lt is = ap f is ∙ sym (get_or-map f xs i x e lt)

pub none_at : {A B : Type 0} (f : A → B) (xs : List A) (i : ℕ) (e : B) → length xs ≤ i
    → e ≡ get_or (map f xs) i e
none_at f xs i e out =
    sym (get_or_past (map f xs) i e (omega (arith, out, length-map xs f)))
