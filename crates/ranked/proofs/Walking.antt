-- A walk by bounds gives what a sort of all gives.
use Rattle.std.proofs.Common.{◌≡◌, ℕ, zero, suc, ◌-◌, ◌<◌, ◌≤◌, Bool, true, false, cond, eqb, List}
use Rattle.std.proofs.Common.{[], ◌∷◌, length, get_or, map, take, Some, refl, sym, ap, ◌∙◌, arith}
use Rattle.std.proofs.Common.{sub-one, inl, inr, ⊎_elim, ◌⊎◌}
use Rattle.std.proofs.lemmas.Bool.{ltb-true, eqb-false, ne_eqb}
use Rattle.expiry_wheel.proofs.Grouped.{nat_cmp-greater}
use Rattle.std.proofs.Math.Pow.{pow_mono}
use Rattle.std.specs.List.{AllByRecursion}
use Rattle.std.specs.Ordering.{is_lt}
use Rattle.fleet_model.specs.Ranking.{put_in_order, rank_cmp}
use Rattle.expiry_wheel.specs.Items.{first_item}
use Rattle.std.specs.Prelude.{remove}
use Rattle.expiry_wheel.specs.Items.{AreFromFirst}
use Rattle.ranked.specs.Walk.{AreBounds, bound_of, found, is_done, is_settled}
use Rattle.ranked.specs.Walk.{put_all, worth}

pub map_take : {X Y : Type 0} (f : X → Y) (m : ℕ) (xs : List X)
    → map f (take m xs) ≡ take m (map f xs)
map_take f zero xs = refl
map_take f (suc m) [] = refl
map_take f (suc m) (x ∷ xs) = ap (λ l. f x ∷ l) (map_take f m xs)

-- of a longer list the first ones are those of its first ones
take_cons : {X : Type 0} (m : ℕ) (y : X) (ys : List X) → take m (y ∷ ys) ≡ take m (y ∷ take m ys)
take_cons zero y ys = refl
take_cons (suc m) y ys = ap (λ l. y ∷ l) (again m ys)
  where
    again : {X : Type 0} (m : ℕ) (ys : List X) → take m ys ≡ take m (take (suc m) ys)
    again zero ys = refl
    again (suc m) [] = refl
    again (suc m) (y ∷ ys) = ap (λ l. y ∷ l) (again m ys)

-- the first ones with one more depend on the first ones alone
pub take_put : (m : ℕ) (x : List ℕ × ℕ) (zs : List (List ℕ × ℕ))
    → take m (put_in_order rank_cmp x zs) ≡ take m (put_in_order rank_cmp x (take m zs))
take_put zero x zs = refl
take_put (suc m) x [] = refl
take_put (suc m) x (z ∷ zs) = go (is_lt (rank_cmp x z)) (take_put m x zs)
  where
    go : (b : Bool) → take m (put_in_order rank_cmp x zs)
        ≡ take m (put_in_order rank_cmp x (take m zs))
        → take (suc m) (cond b (x ∷ z ∷ zs) (z ∷ put_in_order rank_cmp x zs))
        ≡ take (suc m) (cond b (x ∷ z ∷ take m zs) (z ∷ put_in_order rank_cmp x (take m zs)))
    go true e = ap (λ l. x ∷ l) (take_cons m z zs)
    go false e = ap (λ l. z ∷ l) e

-- so it is with any number more
pub take_put_all : (m : ℕ) (zs xs : List (List ℕ × ℕ)) → take m (put_all (take m zs) xs)
    ≡ take m (put_all zs xs)
unfolding put_all
take_put_all m zs [] = take_take m zs
  where
    take_take : {X : Type 0} (m : ℕ) (zs : List X) → take m (take m zs) ≡ take m zs
    take_take zero zs = refl
    take_take (suc m) [] = refl
    take_take (suc m) (z ∷ zs) = ap (λ l. z ∷ l) (take_take m zs)
take_put_all m zs (x ∷ xs) =
    sym (take_put_all m (put_in_order rank_cmp x (take m zs)) xs)
    ∙ ap (λ l. take m (put_all l xs)) (sym (take_put m x zs))
    ∙ take_put_all m (put_in_order rank_cmp x zs) xs

-- the best comes first where none that is put comes before it
pub put_all_behind : (best : List ℕ × ℕ) (others xs : List (List ℕ × ℕ))
    → AllByRecursion (λ x. is_lt (rank_cmp x best) ≡ false) xs → put_all (best ∷ others) xs
    ≡ best ∷ put_all others xs
unfolding put_all
put_all_behind best others [] h = refl
put_all_behind best others (x ∷ xs) h =
    rw h.0 (put_all_behind best (put_in_order rank_cmp x others) xs h.1)

pub not_zero : (n : ℕ) → eqb n 0 ≡ false → 0 < n
not_zero n e = ⊎_elim (λ z. absurd (eqb-false n 0 e z)) (λ h. h) (zero_or_more n)
  where
    zero_or_more : (n : ℕ) → (n ≡ 0) ⊎ (0 < n)
    zero_or_more zero = inl refl
    zero_or_more (suc n) = inr (omega arith)

-- fewer leading zeros, a greater bound
pub bound_of-falls : (a b : ℕ) → a ≤ b → bound_of b ≤ bound_of a
bound_of-falls a b h = omega (arith, pow_mono {i = 128 - b} {j = 128 - a} (omega arith))

-- a value below another comes behind it
behind : (best : List ℕ × ℕ) (key : List ℕ) (value : ℕ) → value < best.1
    → is_lt (rank_cmp (key, value) best) ≡ false
behind best key value h = rw (nat_cmp-greater best.1 value h) refl

-- once the best is settled, no key from that entry on comes before it
pub settled_behind : (living value : List ℕ → ℕ) (best : List ℕ × ℕ) (e : ℕ × List ℕ)
    (rest : List (ℕ × List ℕ)) → is_settled best (Some e) ≡ true → AreBounds living value rest
    → AllByRecursion (λ f. e.0 ≤ f.0) rest → AllByRecursion (λ x. is_lt (rank_cmp x best) ≡ false)
    (worth living value rest)
settled_behind living value best e [] settled bounds order = tt
settled_behind living value best e (f ∷ rest) settled bounds order =
    go (eqb (living f.1) 0) refl (settled_behind living value best e rest settled bounds.1 order.1)
  where
    one : eqb (living f.1) 0 ≡ false → is_lt (rank_cmp (f.1, value f.1) best) ≡ false
    one lives =
        let above : bound_of e.0 < best.1 = ltb-true (bound_of e.0) best.1 settled in
        let bound : value f.1 ≤ bound_of f.0 = bounds.0 (not_zero (living f.1) lives) in
        behind best f.1 (value f.1) (omega (arith, bound_of-falls e.0 f.0 order.0))

    go : (b : Bool) → eqb (living f.1) 0 ≡ b → AllByRecursion (λ x. is_lt (rank_cmp x best) ≡ false)
        (worth living value rest) → AllByRecursion (λ x. is_lt (rank_cmp x best) ≡ false)
        (cond b (worth living value rest) ((f.1, value f.1) ∷ worth living value rest))
    go true is others = others
    go false is others = (one is, others)

-- an entry is taken: its key has no live row
pub taken_dead : (living value : List ℕ → ℕ) (room : ℕ) (candidates : List (List ℕ × ℕ)) (e : ℕ
    × List ℕ) (rest : List (ℕ × List ℕ)) → living e.1 ≡ 0 → found living value room candidates rest
    ≡ found living value room candidates (e ∷ rest)
taken_dead living value room candidates e rest dead = rw dead refl

-- or its key is offered
pub taken_live : (living value : List ℕ → ℕ) (room : ℕ) (candidates new : List (List ℕ × ℕ)) (e : ℕ
    × List ℕ) (rest : List (ℕ × List ℕ)) → 0 < living e.1
    → new ≡ take room (put_in_order rank_cmp (e.1, value e.1) candidates)
    → found living value room new rest ≡ found living value room candidates (e ∷ rest)
unfolding put_all
taken_live living value room candidates new e rest lives offered =
    let some : eqb (living e.1) 0 ≡ false = ne_eqb (living e.1) 0 (λ z. omega (arith, z)) in
    rw (offered, some) (take_put_all room (put_in_order rank_cmp (e.1, value e.1) candidates)
    (worth living value rest))

-- a settled best one is the first of what is found
pub found_first : (living value : List ℕ → ℕ) (room : ℕ) (best : List ℕ
    × ℕ) (others : List (List ℕ × ℕ)) (entries : List (ℕ × List ℕ)) → 0 < room
    → AllByRecursion (λ x. is_lt (rank_cmp x best) ≡ false) (worth living value entries)
    → found living value room (best ∷ others) entries ≡ best ∷ found living value (room - 1)
    others entries
found_first living value zero best others entries h behind = absurd (omega arith)
found_first living value (suc room) best others entries h behind =
    rw (put_all_behind best others (worth living value entries) behind, sub-one) refl

-- the same, from the first entry on that is left
pub settled_all : (living value : List ℕ → ℕ) (best : List ℕ × ℕ) (entries : List (ℕ × List ℕ))
    → is_settled best (first_item entries) ≡ true → AreBounds living value entries
    → AreFromFirst entries → AllByRecursion (λ x. is_lt (rank_cmp x best) ≡ false)
    (worth living value entries)
settled_all living value best [] settled bounds order = tt
settled_all living value best (e ∷ rest) settled bounds order =
    settled_behind living value best e (e ∷ rest) settled bounds (omega arith, order)

-- what a walk that may stop gives first
pub gives_first : (living value : List ℕ → ℕ) (room : ℕ) (candidates others : List (List ℕ × ℕ))
    (best : List ℕ × ℕ) (entries : List (ℕ × List ℕ)) → candidates ≡ best ∷ others → 0 < room
    → is_done candidates (first_item entries) ≡ true → AreBounds living value entries
    → AreFromFirst entries → found living value room candidates entries ≡ best ∷ found living value
    (room - 1) others entries
gives_first living value room candidates others best entries e h done bounds order =
    ap (λ l. found living value room l entries) e
    ∙ found_first living value room best others entries h
    (settled_all living value best entries (rw e at done) bounds order)

take_none : (room : ℕ) → let none : List (List ℕ × ℕ) = [] in take room none ≡ none
take_none zero = refl
take_none (suc room) = refl

-- nothing, where there is no candidate
pub gives_none : (living value : List ℕ → ℕ) (room : ℕ) (candidates : List (List ℕ × ℕ))
    (entries : List (ℕ × List ℕ)) → length candidates ≡ 0 → is_done candidates (first_item entries)
    ≡ true → found living value room candidates entries ≡ []
unfolding put_all
gives_none living value room [] [] none done = take_none room
gives_none living value room [] (e ∷ entries) none done = absurd cc
gives_none living value room (best ∷ others) entries none done = absurd (omega (arith, none))

-- the first of a list, and the others
pub removed_first : {X : Type 0} (xs : List X) (r : X) → 0 < length xs → r ≡ get_or xs 0 r
    → xs ≡ r ∷ remove xs 0
removed_first [] r h e = absurd (omega arith)
removed_first (x ∷ xs) r h e = ap (λ y. y ∷ xs) (sym e)
