use Rattle.std.specs.Prelude.{ℕ, ◌+◌, ◌-◌, Bool, false, List, ◌++◌, Option, Some, None, length}
use Rattle.std.specs.Prelude.{count_by, replicate, nat_le, slice_index_or, slice_set}

-- the moment that is planned for a place, if one is
abbrev pub plan_at : List (Option ℕ) → ℕ → Option ℕ
plan_at plans place = slice_index_or plans place None

-- at least so many places; further ones have nothing
abbrev pub padded : {X : Type 0} → List (Option X) → ℕ → List (Option X)
padded places count = places ++ replicate (count - length places) None

-- the plans with this moment at a place
abbrev pub planned : List (Option ℕ) → ℕ → ℕ → List (Option ℕ)
planned plans place at = slice_set (padded plans (place + 1)) place (Some at)

-- the plans without that of a place
abbrev pub cancelled : List (Option ℕ) → ℕ → List (Option ℕ)
cancelled plans place = slice_set plans place None

-- whether a moment is planned that has come by t
abbrev pub is_due : ℕ → Option ℕ → Bool
is_due t None = false
is_due t (Some at) = nat_le at t

-- how many places are due by t
abbrev pub count_due : ℕ → List (Option ℕ) → ℕ
count_due t plans = count_by (is_due t) plans
