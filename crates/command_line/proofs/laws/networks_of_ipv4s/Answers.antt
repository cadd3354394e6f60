use Rattle.std.proofs.Common.{◌≡◌, ◌∙◌, ℕ, ◌+◌, ◌-◌, ◌*◌, ◌/◌, ◌^◌, ◌≤◌, ◌==◌, ap, ap₂, sym, arith}
use Rattle.std.proofs.Math.Nat.{mul-add-div_right}
use Rattle.std.proofs.lemmas.Bool.Decides.{nat_tests}
use Rattle.std.proofs.lemmas.Nat.{pow-add, pow_pos}
use Rattle.command_line.specs.Networks.{first_bits, mapped}
use Rattle.command_line.proofs.laws.networks_of_ipv4s.Goals as goal

-- what stands before the IPv4 stays in front of its first bits
in_front : (bits x : ℕ) → bits ≤ 32
    → first_bits (96 + bits) (mapped x) ≡ 0xffff * 2 ^ bits + x / 2 ^ (32 - bits)
in_front bits x within =
    let rest = 32 - bits in
    let places : 128 - (96 + bits) ≡ rest = omega arith in
    let both : bits + rest ≡ 32 = omega arith in
    let split : 0xffff * 2 ^ 32 ≡ 0xffff * 2 ^ bits * 2 ^ rest =
    ap (λ n. 0xffff * 2 ^ n) (sym both) ∙ ap (λ n. 0xffff * n) (pow-add 2 bits rest)
    ∙ (omega arith) in
    ap₂ (λ whole n. (whole + x) / 2 ^ n) split places
    ∙ mul-add-div_right (pow_pos rest) (0xffff * 2 ^ bits) x

-- as much in front of both changes nothing
with_same : (front a b : ℕ) → (front + a == front + b) ≡ (a == b)
with_same front a b = grind (arith, nat_tests)

pub returns : goal.returns
returns c bits x y within =
    ap₂ (λ a b. a == b) (in_front bits x within) (in_front bits y within)
    ∙ with_same (0xffff * 2 ^ bits) (x / 2 ^ (32 - bits)) (y / 2 ^ (32 - bits))
