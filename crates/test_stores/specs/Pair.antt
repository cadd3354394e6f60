-- Two rates, added up, of a row that ends.
use Rattle.std.proofs.Common.{◌≡◌, ℕ, ◌+◌, ◌≤◌, max, nat_lt, sym, ◌∙◌, arith}
use Rattle.std.specs.Prelude.{if◌then◌else◌}
use Rattle.std.proofs.lemmas.Bool.Decides.{nat_tests}
use Rattle.period_rate.specs.Rate.{value_at, zero_moment}
use Rattle.period_rate.specs.declared.rate.Rate.{Rate}
use Rattle.period_rate.proofs.Moments.{value_at_falls, value_at_ends}

abbrev pub worth_of : Rate → Rate → ℕ → ℕ
worth_of first second t = value_at first t + value_at second t

abbrev pub living_of : ℕ → ℕ → ℕ
living_of ends t = if nat_lt t ends then 1 else 0

abbrev pub flat_of : Rate → Rate → ℕ → ℕ
flat_of first second ends = max (max (zero_moment first) (zero_moment second)) ends

pub pair_falls : (first second : Rate) (t later : ℕ) → t ≤ later
    → worth_of first second later ≤ worth_of first second t
pair_falls first second t later h =
    omega (arith, value_at_falls first t later h, value_at_falls second t later h)

pub rows_fall : (ends t later : ℕ) → t ≤ later → living_of ends later ≤ living_of ends t
rows_fall ends t later h = grind (arith, nat_tests)

pair_ends : (first second : Rate) (ends t : ℕ) → flat_of first second ends ≤ t
    → worth_of first second t ≡ 0
pair_ends first second ends t h =
    omega (arith, value_at_ends first t (omega arith), value_at_ends second t (omega arith))

pub pair_stays : (first second : Rate) (ends t : ℕ) → flat_of first second ends ≤ t
    → worth_of first second t ≡ worth_of first second (flat_of first second ends)
pair_stays first second ends t h =
    pair_ends first second ends t h
    ∙ sym (pair_ends first second ends (flat_of first second ends) (omega arith))

pub rows_stay : (first second : Rate) (ends t : ℕ) → flat_of first second ends ≤ t
    → living_of ends t ≡ living_of ends (flat_of first second ends)
rows_stay first second ends t h =
    let past : ends ≤ flat_of first second ends = omega arith in
    let beyond : ends ≤ t = omega arith in
    grind (arith, nat_tests)
