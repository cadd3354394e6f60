-- Marks of slots: what a change of one word changes, and the first mark from a slot on.
use Rattle.std.proofs.Common.{◌≡◌, ◌≢◌, Bool, true, false, ℕ, ◌+◌, ◌-◌, ◌*◌, ◌/◌, ◌%◌, ◌<◌, ◌≤◌}
use Rattle.std.proofs.Common.{List, [], ◌∷◌, length, zero, suc, refl, ap, sym, ◌∙◌, arith, inl, inr}
use Rattle.std.specs.Prelude.{slice_index, slice_set}
use Rattle.std.specs.Int.{bit_at}
use Rattle.std.proofs.lemmas.Bool.{cases_eq, cases_lt, false≢true}
use Rattle.std.proofs.lemmas.List.{get_or-set_same, get_or-set_other}
use Rattle.std.proofs.lemmas.Nat.Bits.{bit_at-zero}
use Rattle.expiry_wheel.specs.Marks.{mark_of, AreUnmarked, IsFirstMarked}

pub mark_at : (words : List ℕ) (level bit : ℕ) → bit < 64 → mark_of words (64 * level + bit)
    ≡ bit_at (slice_index words level) bit
unfolding mark_of
mark_at words level bit h =
    let place : (64 * level + bit) / 64 ≡ level = omega arith in
    let rest : (64 * level + bit) % 64 ≡ bit = omega arith in
    ap (λ n. bit_at (slice_index words n) ((64 * level + bit) % 64)) place
    ∙ ap (λ n. bit_at (slice_index words level) n) rest

-- whether all words are 0
abbrev pub are_zeros : List ℕ → Bool
are_zeros [] = true
are_zeros (zero ∷ words) = are_zeros words
are_zeros (suc n ∷ words) = false

pub zeros_unmarked : (words : List ℕ) → are_zeros words ≡ true → (slot : ℕ) → mark_of words slot ≡ 0
unfolding mark_of
zeros_unmarked words h slot = ap (λ n. bit_at n (slot % 64)) (each words h (slot / 64))
    ∙ bit_at-zero (slot % 64)
  where
    each : (words : List ℕ) → are_zeros words ≡ true → (n : ℕ) → slice_index words n ≡ 0
    each [] h n = refl
    each (zero ∷ words) h zero = refl
    each (zero ∷ words) h (suc n) = each words h n
    each (suc word ∷ words) h n = absurd (false≢true h)

module _ (words : List ℕ) (slot word : ℕ) (within : slot / 64 < length words) where
  pub mark_written : mark_of (slice_set words (slot / 64) word) slot ≡ bit_at word (slot % 64)
  unfolding mark_of
  mark_written = ap (λ n. bit_at n (slot % 64)) (get_or-set_same words (slot / 64) word 0 within)

  pub other_marks : ((bit : ℕ) → bit < 64 → bit ≢ slot % 64
      → bit_at word bit ≡ bit_at (slice_index words (slot / 64)) bit) → (other : ℕ) → other ≢ slot
      → mark_of (slice_set words (slot / 64) word) other ≡ mark_of words other
  unfolding mark_of
  other_marks kept other apart = elim (cases_eq (other / 64) (slot / 64)) [
    | inl same ↦
        ap (λ n. bit_at (slice_index (slice_set words (slot / 64) word) n) (other % 64)) same
        ∙ ap (λ n. bit_at n (other % 64)) (get_or-set_same words (slot / 64) word 0 within)
        ∙ kept (other % 64) (omega arith) (λ e. apart (omega arith))
        ∙ ap (λ n. bit_at (slice_index words n) (other % 64)) (sym same)
    | inr elsewhere ↦ ap (λ n. bit_at n (other % 64))
        (get_or-set_other words (slot / 64) (other / 64) word 0 elsewhere)
  ]

-- a look at one word, from one of its bits on
module _ (words : List ℕ) (level low from word : ℕ) (start : from ≡ 64 * level + low)
    (below : (bit : ℕ) → bit < low → bit_at word bit ≡ 0) (kept : (bit : ℕ) → low ≤ bit → bit < 64
    → bit_at word bit ≡ bit_at (slice_index words level) bit) where
  bit_of : (slot : ℕ) → from ≤ slot → slot < 64 * level + 64
      → mark_of words slot ≡ bit_at word (slot - 64 * level)
  bit_of slot h k =
      let place : slot ≡ 64 * level + (slot - 64 * level) = omega arith in
      ap (mark_of words) place ∙ mark_at words level (slot - 64 * level) (omega arith)
      ∙ sym (kept (slot - 64 * level) (omega arith) (omega arith))

  pub found_in_word : level < 32 → (bit : ℕ) → bit < 64 → bit_at word bit ≡ 1
      → ((other : ℕ) → other < bit → bit_at word other ≡ 0)
      → IsFirstMarked words from (64 * level + bit)
  found_in_word h bit k one before = elim (cases_lt bit low) [
    | inl lt ↦ absurd (omega (arith, below bit lt, one))
    | inr ge ↦ record {
      since = omega arith;
      within = omega arith;
      marked = mark_at words level bit k ∙ sym (kept bit ge k) ∙ one;
      none_before = λ slot l m. bit_of slot l (omega arith)
          ∙ before (slot - 64 * level) (omega arith);
    }
  ]

  pub none_in_word : word ≡ 0 → AreUnmarked words from (64 * (level + 1))
  none_in_word e slot h k = bit_of slot h (omega arith) ∙ ap (λ n. bit_at n (slot - 64 * level)) e
      ∙ bit_at-zero (slot - 64 * level)

module _ (words : List ℕ) (a b : ℕ) (none : AreUnmarked words a b) where
  pub unmarked_on : (c : ℕ) → AreUnmarked words b c → AreUnmarked words a c
  unmarked_on c more slot h k = elim (cases_lt slot b) [
    | inl lt ↦ none slot h lt
    | inr ge ↦ more slot ge k
  ]

  pub first_further : a ≤ b → (slot : ℕ) → IsFirstMarked words b slot → IsFirstMarked words a slot
  first_further le slot f = record {
    since = omega (arith, f.since);
    within = f.within;
    marked =
        f.marked;
    none_before = unmarked_on slot f.none_before;
  }
