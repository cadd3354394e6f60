-- Sets as ascending lists, in two parts: what an edit or a search of the whole does in one part.
use Rattle.std.proofs.Common.{◌≡◌, ◌<◌, Bool, true, false, cond, ◌||◌, List, [], ◌∷◌, ◌++◌, length}
use Rattle.std.proofs.Common.{refl, ap, arith}
use Rattle.std.specs.Prelude.{Option, Some, None}
use Rattle.std.specs.declared.cmp.Ordering.{Ordering}
use Rattle.std.specs.declared.cmp.Ordering.TheVariants.{Less, Equal, Greater}
use Rattle.std.specs.Ordering.{is_lt, match_ordering}
use Rattle.std.specs.List.{AllByRecursion, find, list_any}
use Rattle.std.specs.List.Sorted.{IsStrictlySortedBy}
use Rattle.std.specs.BTreeMap.{is_at}
use Rattle.std.specs.BTreeSet.{insert_key}
use Rattle.std.specs.Set.{remove_key}
use Rattle.expiry_wheel.specs.Items.{first_item}

module _ {X : Type 0} where
  pub all-append : (P : X → Type 0) (xs ys : List X) → AllByRecursion P xs → AllByRecursion P ys
      → AllByRecursion P (xs ++ ys)
  all-append P [] ys h k = k
  all-append P (x ∷ xs) ys h k = (h.0, all-append P xs ys h.1 k)

  pub all-left : (P : X → Type 0) (xs ys : List X) → AllByRecursion P (xs ++ ys)
      → AllByRecursion P xs
  all-left P [] ys h = tt
  all-left P (x ∷ xs) ys h = (h.0, all-left P xs ys h.1)

  pub all-right : (P : X → Type 0) (xs ys : List X) → AllByRecursion P (xs ++ ys)
      → AllByRecursion P ys
  all-right P [] ys h = h
  all-right P (x ∷ xs) ys h = all-right P xs ys h.1

  pub all-imply : (P Q : X → Type 0) → ((x : X) → P x → Q x) → (xs : List X) → AllByRecursion P xs
      → AllByRecursion Q xs
  all-imply P Q f [] h = tt
  all-imply P Q f (x ∷ xs) h = (f x h.0, all-imply P Q f xs h.1)

module _ {X : Type 0} (c : X → X → Ordering) (x : X) where
  -- x comes after each of these
  abbrev pub IsAfterAll : List X → Type 0
  IsAfterAll xs = AllByRecursion (λ e. c x e ≡ Greater) xs

  -- x comes before each of these
  abbrev pub IsBeforeAll : List X → Type 0
  IsBeforeAll xs = AllByRecursion (λ e. c x e ≡ Less) xs

  pub insert-front : (front rest : List X) → IsAfterAll front → insert_key c (front ++ rest) x
      ≡ front ++ insert_key c rest x
  insert-front [] rest h = refl
  insert-front (e ∷ front) rest h = rw h.0 (ap (λ l. e ∷ l) (insert-front front rest h.1))

  pub insert-first : (rest : List X) → IsBeforeAll rest → insert_key c rest x ≡ x ∷ rest
  insert-first [] h = refl
  insert-first (e ∷ rest) h = rw h.0 refl

  pub insert-back : (front rest : List X) → IsBeforeAll rest → insert_key c (front ++ rest) x
      ≡ insert_key c front x ++ rest
  insert-back [] rest h = insert-first rest h
  insert-back (e ∷ front) rest h =
      elim (c x e) as (λ o. match_ordering o (x ∷ e ∷ (front ++ rest)) (e ∷ (front ++ rest))
      (e ∷ insert_key c (front ++ rest) x) ≡ match_ordering o (x ∷ e ∷ front) (e ∷ front)
      (e ∷ insert_key c front x) ++ rest) [
        | Less ↦ refl
        | Equal ↦ refl
        | Greater ↦ ap (λ l. e ∷ l) (insert-back front rest h)
      ]

  pub remove-front : (front rest : List X) → IsAfterAll front
      → remove_key (is_at (c x)) (front ++ rest) ≡ front ++ remove_key (is_at (c x)) rest
  remove-front [] rest h = refl
  remove-front (e ∷ front) rest h = rw h.0 (ap (λ l. e ∷ l) (remove-front front rest h.1))

  pub remove-none : (rest : List X) → IsBeforeAll rest → remove_key (is_at (c x)) rest ≡ rest
  remove-none [] h = refl
  remove-none (e ∷ rest) h = rw h.0 (ap (λ l. e ∷ l) (remove-none rest h.1))

  pub remove-back : (front rest : List X) → IsBeforeAll rest
      → remove_key (is_at (c x)) (front ++ rest) ≡ remove_key (is_at (c x)) front ++ rest
  remove-back [] rest h = remove-none rest h
  remove-back (e ∷ front) rest h =
      elim (is_at (c x) e) as (λ b. cond b (front ++ rest)
      (e ∷ remove_key (is_at (c x)) (front ++ rest))
      ≡ cond b front (e ∷ remove_key (is_at (c x)) front) ++ rest) [
        | true ↦ refl
        | false ↦ ap (λ l. e ∷ l) (remove-back front rest h)
      ]

  pub any-front : (front rest : List X) → IsAfterAll front → list_any (is_at (c x)) (front ++ rest)
      ≡ list_any (is_at (c x)) rest
  any-front [] rest h = refl
  any-front (e ∷ front) rest h = rw h.0 (any-front front rest h.1)

  pub any-none : (rest : List X) → IsBeforeAll rest → list_any (is_at (c x)) rest ≡ false
  any-none [] h = refl
  any-none (e ∷ rest) h = rw h.0 (any-none rest h.1)

  pub any-back : (front rest : List X) → IsBeforeAll rest → list_any (is_at (c x)) (front ++ rest)
      ≡ list_any (is_at (c x)) front
  any-back [] rest h = any-none rest h
  any-back (e ∷ front) rest h = ap (λ b. is_at (c x) e || b) (any-back front rest h)

  pub find-front : (front rest : List X) → IsAfterAll front
      → find (λ e. is_lt (c x e)) (front ++ rest) ≡ find (λ e. is_lt (c x e)) rest
  find-front [] rest h = refl
  find-front (e ∷ front) rest h = rw h.0 (find-front front rest h.1)

  pub find-first : (rest : List X) → IsBeforeAll rest → find (λ e. is_lt (c x e)) rest
      ≡ first_item rest
  find-first [] h = refl
  find-first (e ∷ rest) h = rw h.0 refl

module _ {X : Type 0} (p : X → Bool) where
  pub find-append_found : (front rest : List X) (e : X) → find p front ≡ Some e
      → find p (front ++ rest) ≡ Some e
  find-append_found [] rest e h = cc
  find-append_found (y ∷ front) rest e h =
      find_found (p y) y (find p front) (find p (front ++ rest)) e h
      (λ k. find-append_found front rest e k)
    where
      find_found : (b : Bool) (y : X) (inner outer : Option X) (e : X)
          → cond b (Some y) inner ≡ Some e → (inner ≡ Some e → outer ≡ Some e)
          → cond b (Some y) outer ≡ Some e
      find_found true y inner outer e h f = h
      find_found false y inner outer e h f = f h

  pub find-append_none : (front rest : List X) → find p front ≡ None
      → find p (front ++ rest) ≡ find p rest
  find-append_none [] rest h = refl
  find-append_none (y ∷ front) rest h = find_none (p y) y (find p front) (find p (front ++ rest))
      (find p rest) h (λ k. find-append_none front rest k)
    where
      find_none : (b : Bool) (y : X) (inner outer last : Option X) → cond b (Some y) inner ≡ None
          → (inner ≡ None → outer ≡ last) → cond b (Some y) outer ≡ last
      find_none true y inner outer last h f = cc
      find_none false y inner outer last h f = f h

module _ {X : Type 0} (c : X → X → Ordering) where
  pub sorted-append : (xs ys : List X) → IsStrictlySortedBy c xs → IsStrictlySortedBy c ys
      → AllByRecursion (λ x. IsBeforeAll c x ys) xs → IsStrictlySortedBy c (xs ++ ys)
  unfolding IsStrictlySortedBy
  sorted-append [] ys h k below = k
  sorted-append (x ∷ xs) ys h k below = (
    all-append (λ y. c x y ≡ Less) xs ys h.0 below.0,
    sorted-append xs ys h.1 k below.1,
  )

  pub sorted-left : (xs ys : List X) → IsStrictlySortedBy c (xs ++ ys) → IsStrictlySortedBy c xs
  unfolding IsStrictlySortedBy
  sorted-left [] ys h = tt
  sorted-left (x ∷ xs) ys h = (all-left (λ y. c x y ≡ Less) xs ys h.0, sorted-left xs ys h.1)

  pub sorted-right : (xs ys : List X) → IsStrictlySortedBy c (xs ++ ys) → IsStrictlySortedBy c ys
  unfolding IsStrictlySortedBy
  sorted-right [] ys h = h
  sorted-right (x ∷ xs) ys h = sorted-right xs ys h.1

  pub some-insert_key : (xs : List X) (x : X) → 0 < length (insert_key c xs x)
  some-insert_key [] x = omega arith
  some-insert_key (e ∷ xs) x = elim (c x e) as
      (λ o. 0 < length (match_ordering o (x ∷ e ∷ xs) (e ∷ xs) (e ∷ insert_key c xs x))) [
        | Less ↦ omega arith
        | Equal ↦ omega arith
        | Greater ↦ omega arith
      ]

pub some_items : {X : Type 0} (xs : List X) → (xs ≡ [] → ⊥) → 0 < length xs
some_items [] h = absurd (h refl)
some_items (x ∷ xs) h = omega arith

or_true : (b : Bool) → (b || true) ≡ true
or_true true = refl
or_true false = refl

-- what is in the second part is in the whole
pub any_right : {X : Type 0} (p : X → Bool) (xs ys : List X) → list_any p ys ≡ true
    → list_any p (xs ++ ys) ≡ true
any_right p [] ys h = h
any_right p (x ∷ xs) ys h = rw (any_right p xs ys h) (or_true (p x))
