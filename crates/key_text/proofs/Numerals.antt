-- Numbers that digits write, digit by digit.
use Rattle.std.proofs.Common.{◌≡◌, ℕ, ◌+◌, ◌*◌, ◌<◌, ◌≤◌, true, false, cond, leb, ◌&&◌, List, []}
use Rattle.std.proofs.Common.{◌∷◌, length, drop, get_or, suc, drop-cons, Option, Some, None, refl}
use Rattle.std.proofs.Common.{arith, sym, inl, inr}
use Rattle.std.proofs.lemmas.Bool.{cases_Bool}
use Rattle.std.proofs.lemmas.Bool.Decides.{nat_tests}
use Rattle.std.proofs.Math.Nat.{mul-le-mul_left}
use Rattle.std.specs.Char.{digit_value, is_digit}
use Rattle.std.specs.List.{list_all}
use Rattle.std.specs.Str.Parse.{digits_value_after}
use Rattle.key_text.specs.Read.{number_up_to}

-- a number that is at most a greatest one
abbrev pub at_most : ℕ → ℕ → Option ℕ
at_most most n = cond (leb n most) (Some n) None

-- the number that digits write behind those of n
abbrev pub number_from : ℕ → ℕ → ℕ → List ℕ → Option ℕ
number_from radix most n [] = at_most most n
number_from radix most n (c ∷ cs) =
    cond (is_digit c radix) (number_from radix most (n * radix + digit_value c) cs) None

-- a number that is too large stays so
pub number_from-over : (radix most n : ℕ) (cs : List ℕ) → 1 ≤ radix → most < n
    → number_from radix most n cs ≡ None
number_from-over radix most n [] low over =
    let large : leb n most ≡ false = grind (arith, nat_tests) in
    rw large refl
number_from-over radix most n (c ∷ cs) low over =
    elim (cases_Bool (is_digit c radix)) [
      | inl digit ↦ rw digit (number_from-over radix most (n * radix + digit_value c) cs low
          (omega (arith, mul-le-mul_left n low)))
      | inr other ↦ rw other refl
    ]

from_all : (radix most n : ℕ) (cs : List ℕ) → number_from radix most n cs
    ≡ cond (list_all (λ c. is_digit c radix) cs && leb (digits_value_after radix n cs) most)
    (Some (digits_value_after radix n cs)) None
from_all radix most n [] = refl
from_all radix most n (c ∷ cs) =
    elim (cases_Bool (is_digit c radix)) [
      | inl digit ↦ rw (digit, from_all radix most (n * radix + digit_value c) cs) refl
      | inr other ↦ rw other refl
    ]

-- one or more digits write a number, read from the first of them on
pub number_up_to-cons : (radix most c : ℕ) (cs : List ℕ) → number_up_to radix most (c ∷ cs)
    ≡ number_from radix most 0 (c ∷ cs)
unfolding number_up_to
number_up_to-cons radix most c cs =
    let some : leb 1 (length (c ∷ cs)) ≡ true = grind (arith, nat_tests) in
    rw some (sym (from_all radix most 0 (c ∷ cs)))

-- the same of a text that isn't empty
pub number_up_to-from : (radix most : ℕ) (cs : List ℕ) → 0 < length cs → number_up_to radix most cs
    ≡ number_from radix most 0 cs
number_up_to-from radix most [] some = absurd (omega arith)
number_up_to-from radix most (c ∷ cs) some = number_up_to-cons radix most c cs

-- no digits write none
pub number_up_to-none : (radix most : ℕ) (cs : List ℕ) → length cs ≡ 0
    → number_up_to radix most cs ≡ None
unfolding number_up_to
number_up_to-none radix most [] none = refl
number_up_to-none radix most (c ∷ cs) none = absurd (omega arith)

-- a digit that makes the number too large
pub number_from-next_over : (radix most n i : ℕ) (cs : List ℕ) → i < length cs → 1 ≤ radix
    → digit_value (get_or cs i 0) < radix → most < n * radix + digit_value (get_or cs i 0)
    → number_from radix most n (drop i cs) ≡ None
number_from-next_over radix most n i cs within low digit over =
    let it : is_digit (get_or cs i 0) radix ≡ true = grind (arith, nat_tests) in
    rw (drop-cons cs i 0) (rw it (number_from-over radix most
    (n * radix + digit_value (get_or cs i 0)) (drop (suc i) cs) low over))

pub ruleset number_up_to_steps = (number_up_to-from, number_up_to-none, number_from-next_over)
