-- The slots of moments: they rise with the moments, and later ones stay as a wheel turns.
use Rattle.std.proofs.Common.{◌≡◌, ℕ, zero, suc, ◌+◌, ◌-◌, ◌*◌, ◌/◌, ◌%◌, ◌<◌, ◌≤◌, true, false}
use Rattle.std.proofs.Common.{refl, ap, sym, ◌∙◌, arith, inl, inr}
use Rattle.std.specs.Prelude.{◌==◌}
use Rattle.std.proofs.lemmas.Bool.{cases_eq, cases_lt}
use Rattle.std.proofs.lemmas.Bool.Decides.{nat_tests}
use Rattle.expiry_wheel.specs.Slots.{slot_of, start_of}

same_test : (a b : ℕ) → a ≡ b → (a == b) ≡ true
same_test a b e = grind (arith, nat_tests)

apart_test : (a b : ℕ) → (a ≡ b → ⊥) → (a == b) ≡ false
apart_test a b e = grind (arith, nat_tests)

slot-same : (n now at : ℕ) → at / 256 ≡ now / 256 → slot_of (suc n) now at ≡ at % 256
unfolding slot_of
slot-same n now at e = rw (same_test (at / 256) (now / 256) e) refl

slot-apart : (n now at : ℕ) → (at / 256 ≡ now / 256 → ⊥)
    → slot_of (suc n) now at ≡ 256 + slot_of n (now / 256) (at / 256)
unfolding slot_of
slot-apart n now at e = rw (apart_test (at / 256) (now / 256) e) refl

start-same : (n now at : ℕ) → at / 256 ≡ now / 256 → start_of (suc n) now at ≡ at
unfolding start_of
start-same n now at e = rw (same_test (at / 256) (now / 256) e) refl

start-apart : (n now at : ℕ) → (at / 256 ≡ now / 256 → ⊥)
    → start_of (suc n) now at ≡ 256 * start_of n (now / 256) (at / 256)
unfolding start_of
start-apart n now at e = rw (apart_test (at / 256) (now / 256) e) refl

-- a later moment has no earlier slot
pub slots_rise : (n now a b : ℕ) → now ≤ a → a ≤ b → slot_of n now a ≤ slot_of n now b
unfolding slot_of
slots_rise zero now a b h k = k
slots_rise (suc n) now a b h k = elim (cases_eq (a / 256) (now / 256)) [
  | inl here ↦ elim (cases_eq (b / 256) (now / 256)) [
    | inl there ↦ omega (arith, slot-same n now a here, slot-same n now b there)
    | inr beyond ↦ omega (arith, slot-same n now a here, slot-apart n now b beyond)
  ]
  | inr beyond ↦
      let later : b / 256 ≡ now / 256 → ⊥ = λ e. beyond (omega arith) in
      omega (
        arith,
        slot-apart n now a beyond,
        slot-apart n now b later,
        slots_rise n (now / 256) (a / 256) (b / 256) (omega arith) (omega arith),
      )
]

-- a moment with an earlier slot is earlier
pub earlier_slot : (n now a b : ℕ) → now ≤ b → slot_of n now a < slot_of n now b → a < b
earlier_slot n now a b h k = elim (cases_lt a b) [
  | inl lt ↦ lt
  | inr ge ↦ absurd (omega (arith, slots_rise n now b a h ge))
]

-- a wheel that turns to a moment leaves later slots as they are
pub slots_stay : (n now new at : ℕ) → now ≤ new → new ≤ at → slot_of n now new < slot_of n now at
    → slot_of n new at ≡ slot_of n now at
unfolding slot_of
slots_stay zero now new at h k l = refl
slots_stay (suc n) now new at h k l = elim (cases_eq (new / 256) (now / 256)) [
  | inl here ↦ elim (cases_eq (at / 256) (now / 256)) [
    | inl there ↦ slot-same n new at (there ∙ sym here) ∙ sym (slot-same n now at there)
    | inr beyond ↦ slot-apart n new at (λ e. beyond (e ∙ here))
        ∙ ap (λ m. 256 + slot_of n m (at / 256)) here ∙ sym (slot-apart n now at beyond)
  ]
  | inr beyond ↦
      let later : at / 256 ≡ now / 256 → ⊥ = λ e. beyond (omega arith) in
      let inner : slot_of n (now / 256) (new / 256) < slot_of n (now / 256) (at / 256) =
      omega (arith, slot-apart n now new beyond, slot-apart n now at later) in
      let apart : at / 256 ≡ new / 256 → ⊥ = λ e. let same : slot_of n (now / 256) (at / 256)
      ≡ slot_of n (now / 256) (new / 256) = ap (slot_of n (now / 256)) e in omega arith in
      slot-apart n new at apart
      ∙ ap (λ s. 256 + s) (slots_stay n (now / 256) (new / 256) (at / 256) (omega arith)
      (omega arith) inner)
      ∙ sym (slot-apart n now at later)
]

-- the start of a slot is after now
pub start_after : (n now at : ℕ) → now < at → now < start_of n now at
unfolding start_of
start_after zero now at h = h
start_after (suc n) now at h = elim (cases_eq (at / 256) (now / 256)) [
  | inl here ↦ omega (arith, start-same n now at here)
  | inr beyond ↦ omega (
    arith,
    start-apart n now at beyond,
    start_after n (now / 256) (at / 256) (omega arith),
  )
]

pub start_up_to : (n now at : ℕ) → start_of n now at ≤ at
unfolding start_of
start_up_to zero now at = omega arith
start_up_to (suc n) now at = elim (cases_eq (at / 256) (now / 256)) [
  | inl here ↦ omega (arith, start-same n now at here)
  | inr beyond ↦ omega (arith, start-apart n now at beyond, start_up_to n (now / 256) (at / 256))
]

-- from the start up to a moment all have its slot
pub slot_from_start : (n now at m : ℕ) → now < at → start_of n now at ≤ m → m ≤ at
    → slot_of n now m ≡ slot_of n now at
unfolding slot_of start_of
slot_from_start zero now at m h k l = omega arith
slot_from_start (suc n) now at m h k l = elim (cases_eq (at / 256) (now / 256)) [
  | inl here ↦ ap (slot_of (suc n) now) (omega (arith, start-same n now at here))
  | inr beyond ↦
      let later : now / 256 < at / 256 = omega arith in
      let after : now / 256 < start_of n (now / 256) (at / 256) =
      start_after n (now / 256) (at / 256) later in
      let from : start_of n (now / 256) (at / 256) ≤ m / 256 =
      omega (arith, start-apart n now at beyond) in
      slot-apart n now m (λ e. omega arith)
      ∙ ap (λ s. 256 + s) (slot_from_start n (now / 256) (at / 256) (m / 256) later
      from (omega arith))
      ∙ sym (slot-apart n now at beyond)
]

-- ---- the equations as the code takes them

pub slot_zero : (l now at : ℕ) → l ≡ 0 → slot_of l now at ≡ at
unfolding slot_of
slot_zero zero now at h = refl
slot_zero (suc n) now at h = absurd (omega arith)

pub slot_here : (l now at : ℕ) → 0 < l → at / 256 ≡ now / 256 → slot_of l now at ≡ at % 256
slot_here zero now at h e = absurd (omega arith)
slot_here (suc n) now at h e = slot-same n now at e

pub slot_beyond : (l now at : ℕ) → 0 < l → (at / 256 ≡ now / 256 → ⊥)
    → slot_of l now at ≡ 256 + slot_of (l - 1) (now / 256) (at / 256)
slot_beyond zero now at h e = absurd (omega arith)
slot_beyond (suc n) now at h e = slot-apart n now at e
    ∙ ap (λ m. 256 + slot_of m (now / 256) (at / 256)) (let same : n ≡ suc n - 1 =
    omega arith in same)

pub start_zero : (l now at : ℕ) → l ≡ 0 → start_of l now at ≡ at
unfolding start_of
start_zero zero now at h = refl
start_zero (suc n) now at h = absurd (omega arith)

pub start_here : (l now at : ℕ) → at / 256 ≡ now / 256 → start_of l now at ≡ at
unfolding start_of
start_here zero now at e = refl
start_here (suc n) now at e = start-same n now at e

pub start_beyond : (l now at : ℕ) → 0 < l → (at / 256 ≡ now / 256 → ⊥)
    → start_of l now at ≡ 256 * start_of (l - 1) (now / 256) (at / 256)
start_beyond zero now at h e = absurd (omega arith)
start_beyond (suc n) now at h e = start-apart n now at e
    ∙ ap (λ m. 256 * start_of m (now / 256) (at / 256)) (let same : n ≡ suc n - 1 =
    omega arith in same)
