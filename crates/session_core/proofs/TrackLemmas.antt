-- What is kept of the sender's tables is what the messages so far say of them.
use Rattle.std.proofs.Common.{inl, inr, ◌⊎◌, ◌≡◌, ℕ, suc, ◌+◌, ◌<◌, ◌≤◌, Bool, true, false, ltb}
use Rattle.std.proofs.Common.{eqb, ◌==◌, ◌||◌, nat_lt, if◌then◌else◌, List, [], ◌∷◌, map, insert}
use Rattle.std.proofs.Common.{slice_set, slice_get, Some, None, refl, sym, ap, ◌∙◌, arith}
use Rattle.std.specs.List.{list_any}
use Rattle.std.proofs.lemmas.Bool.{ltb-true, ltb-false, ne_eqb, false≢true}
use Rattle.std.proofs.lemmas.Bool.Decides.{eqb_tells}
use Rattle.session_core.specs.declared.track.Entry.{Entry}
use Rattle.session_core.specs.InForce.{with_id}
use Rattle.session_core.specs.Tracked.{place, if_own}

-- ---- ascending ids

-- every id is above this one
abbrev pub AllAbove : ℕ → List ℕ → Type 0
AllAbove low [] = Unit {0}
AllAbove low (id ∷ ids) = (low < id) × AllAbove low ids

abbrev pub Ascends : List ℕ → Type 0
Ascends [] = Unit {0}
Ascends (id ∷ ids) = AllAbove id ids × Ascends ids

abbrev pub is_in : ℕ → List ℕ → Bool
is_in id ids = list_any (λ other. other == id) ids

pub lt_tells : (a b : ℕ) → ((ltb a b ≡ true) × (a < b)) ⊎ ((ltb a b ≡ false) × (b ≤ a))
lt_tells a b = elim (ltb a b) as (λ v. ltb a b ≡ v → ((ltb a b ≡ true) × (a < b))
    ⊎ ((ltb a b ≡ false) × (b ≤ a))) [
      | true ↦ λ e. inl (e, ltb-true a b e)
      | false ↦
          λ e. inr (e, ltb-false a b e)
    ] refl

pub or_false : (a b : Bool) → (a || b) ≡ false → (a ≡ false) × (b ≡ false)
or_false false b e = (refl, e)
or_false true b e = absurd (false≢true (sym e))

above_lower : (low high : ℕ) (ids : List ℕ) → low ≤ high → AllAbove high ids → AllAbove low ids
above_lower low high [] le h = tt
above_lower low high (x ∷ ids) le h = (omega (arith, h.0), above_lower low high ids le h.1)

not_in_above : (id low : ℕ) (ids : List ℕ) → id ≤ low → AllAbove low ids → is_in id ids ≡ false
not_in_above id low [] le h = refl
not_in_above id low (x ∷ ids) le h =
    let apart : eqb x id ≡ false = ne_eqb x id (λ e. omega (arith, e, h.0)) in
    rw apart (not_in_above id low ids le h.1)

with_id_above : (id low : ℕ) (ids : List ℕ) → low < id → AllAbove low ids
    → AllAbove low (with_id id ids)
with_id_above id low [] lt h = (lt, tt)
with_id_above id low (x ∷ ids) lt h =
    elim (lt_tells x id) [
      | inl p ↦ rw p.0 (h.0, with_id_above id low ids lt h.1)
      | inr p ↦ rw p.0 (elim (eqb_tells x id) [ inl q ↦ rw q.0 h | inr q ↦ rw q.0 (lt, h) ])
    ]

pub with_id_ascends : (id : ℕ) (ids : List ℕ) → Ascends ids → Ascends (with_id id ids)
with_id_ascends id [] h = (tt, tt)
with_id_ascends id (x ∷ ids) h =
    elim (lt_tells x id) [
      | inl p ↦ rw p.0 (with_id_above id x ids p.1 h.0, with_id_ascends id ids h.1)
      | inr p ↦ rw p.0 (elim (eqb_tells x id) [
        | inl q ↦ rw q.0 h
        | inr q ↦
            let lt : id < x = omega (arith, q.1, p.1) in
            rw q.0 ((lt, above_lower id x ids (omega (arith, lt)) h.0), h)
      ])
    ]

pub with_id_in : (id : ℕ) (ids : List ℕ) → Ascends ids → is_in id ids ≡ true → with_id id ids ≡ ids
with_id_in id [] h e = absurd (false≢true e)
with_id_in id (x ∷ ids) h e =
    elim (lt_tells x id) [
      | inl p ↦
          let apart : eqb x id ≡ false = ne_eqb x id (λ s. omega (arith, s, p.1)) in
          rw p.0 (ap (λ xs. x ∷ xs) (with_id_in id ids h.1 (rw apart at e)))
      | inr p ↦ rw p.0 (elim (eqb_tells x id) [
        | inl q ↦ rw q.0 refl
        | inr q ↦ absurd (false≢true (sym (not_in_above id x ids (omega (arith, p.1)) h.0)
            ∙ (rw q.0 at e)))
      ])
    ]

-- ---- entries of ascending ids

-- how many ids are smaller
abbrev pub place_in : ℕ → List ℕ → ℕ
place_in id [] = 0
place_in id (x ∷ ids) = if nat_lt x id then suc (place_in id ids) else 0

-- entries that have their ids
abbrev pub HasIds : (ℕ → Entry) → Type 0
HasIds f = (id : ℕ) → (f id).id ≡ id

pub place_map : (f : ℕ → Entry) (id : ℕ) (ids : List ℕ) → HasIds f
    → place id (map f ids) ≡ place_in id ids
place_map f id [] h = refl
place_map f id (x ∷ ids) h =
    let s : 1 + place id (map f ids) ≡ suc (place_in id ids) =
    omega (arith, place_map f id ids h) in
    rw (h x) (ap (λ n. if nat_lt x id then n else 0) s)

pub map_apart : (f g : ℕ → Entry) (id : ℕ) (ids : List ℕ) → ((x : ℕ) → eqb x id ≡ false → g x ≡ f x)
    → is_in id ids ≡ false → map f ids ≡ map g ids
map_apart f g id [] same e = refl
map_apart f g id (x ∷ ids) same e =
    let both = or_false (eqb x id) (is_in id ids) e in
    rw (same x both.0) (ap (λ es. f x ∷ es) (map_apart f g id ids same both.1))

pub map_same : (f g : ℕ → Entry) (ids : List ℕ) → ((x : ℕ) → g x ≡ f x) → map g ids ≡ map f ids
map_same f g [] same = refl
map_same f g (x ∷ ids) same = rw (same x) (ap (λ es. f x ∷ es) (map_same f g ids same))

pub found_in : (f : ℕ → Entry) (id : ℕ) (ids : List ℕ) → Ascends ids → is_in id ids ≡ true
    → slice_get (map f ids) (place_in id ids) ≡ Some (f id)
found_in f id [] h e = absurd (false≢true e)
found_in f id (x ∷ ids) h e =
    elim (lt_tells x id) [
      | inl p ↦
          let apart : eqb x id ≡ false = ne_eqb x id (λ s. omega (arith, s, p.1)) in
          rw p.0 (found_in f id ids h.1 (rw apart at e))
      | inr p ↦ rw p.0 (elim (eqb_tells x id) [
        | inl q ↦ ap (λ n. Some (f n)) q.1
        | inr q ↦ absurd (false≢true (sym (not_in_above id x ids (omega (arith, p.1)) h.0)
            ∙ (rw q.0 at e)))
      ])
    ]

pub not_found : (f : ℕ → Entry) (id : ℕ) (ids : List ℕ) → HasIds f → is_in id ids ≡ false
    → if_own id (slice_get (map f ids) (place_in id ids)) ≡ None
not_found f id [] h e = refl
not_found f id (x ∷ ids) h e =
    let both = or_false (eqb x id) (is_in id ids) e in
    elim (lt_tells x id) [
      | inl p ↦ rw p.0 (not_found f id ids h both.1)
      | inr p ↦ rw (p.0) (rw (h x, both.0) refl)
    ]

pub set_in : (f g : ℕ → Entry) (id : ℕ) (ids : List ℕ) → Ascends ids → is_in id ids ≡ true
    → ((x : ℕ) → eqb x id ≡ false → g x ≡ f x)
    → slice_set (map f ids) (place_in id ids) (g id) ≡ map g ids
set_in f g id [] h e same = absurd (false≢true e)
set_in f g id (x ∷ ids) h e same =
    elim (lt_tells x id) [
      | inl p ↦
          let apart : eqb x id ≡ false = ne_eqb x id (λ s. omega (arith, s, p.1)) in
          rw (p.0, same x apart) (ap (λ es. f x ∷ es) (set_in f g id ids h.1 (rw apart at e) same))
      | inr p ↦ rw p.0 (elim (eqb_tells x id) [
        | inl q ↦
            let rest = map_apart f g id ids same (not_in_above id x ids p.1 h.0) in
            rw (q.1, rest) refl
        | inr q ↦ absurd (false≢true (sym (not_in_above id x ids (omega (arith, p.1)) h.0)
            ∙ (rw q.0 at e)))
      ])
    ]

pub insert_in : (f g : ℕ → Entry) (id : ℕ) (ids : List ℕ) → is_in id ids ≡ false
    → ((x : ℕ) → eqb x id ≡ false → g x ≡ f x) → insert (map f ids) (place_in id ids) (g id)
    ≡ map g (with_id id ids)
insert_in f g id [] e same = refl
insert_in f g id (x ∷ ids) e same =
    let both = or_false (eqb x id) (is_in id ids) e in
    elim (lt_tells x id) [
      | inl p ↦ rw (p.0, same x both.0) (ap (λ es. f x ∷ es) (insert_in f g id ids both.1 same))
      | inr p ↦ rw (p.0, both.0) (ap (λ es. g id ∷ es) (map_apart f g id (x ∷ ids) same e))
    ]
