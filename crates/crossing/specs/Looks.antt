-- How many looks at a span of moments are left.
use Rattle.std.specs.Prelude.{ℕ, ◌+◌, ◌^◌, ◌≤◌}

-- so many looks are left for a span of this length that halving it to the end stays within the most
pub record IsWithin (most : ℕ) (looks span : ℕ) : Type 0 where
  pub left : ℕ
  pub length : span ≤ 2 ^ left
  pub enough : looks + left ≤ most
