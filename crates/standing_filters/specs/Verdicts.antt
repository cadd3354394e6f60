-- What is known of a filter and a key at a moment.
use Rattle.std.specs.Prelude.{◌≡◌, ◌≢◌, ℕ, ◌+◌, Bool, false, ◌&&◌, nat_lt, List, None}
use Rattle.std.specs.List.{list_all}
use Rattle.agg_types.specs.Op.{op_holds}
use Rattle.agg_types.specs.declared.column.Col.{Col}
use Rattle.agg_types.specs.declared.config.Cond.{Cond}
use Rattle.agg_types.specs.declared.config.Filter.{Filter}
use Rattle.crossing.specs.First.{IsFirstFrom}
use Rattle.standing_filters.specs.declared.judging.Verdict.{Verdict}

-- what a truth is now, and the first later moment at which it is another, or none
pub record Foretells (truth : ℕ → Bool) (now : ℕ) (verdict : Verdict) : Type 0 where
  pub holds : verdict.holds ≡ truth now
  pub next : IsFirstFrom (now + 1) (λ t. truth t ≢ truth now) verdict.next

-- some row of a table's key lives at a moment, and its summed values meet all conditions
abbrev pub meets_at : (ℕ → List ℕ → Col → ℕ → ℕ) → (ℕ → List ℕ → ℕ → ℕ) → ℕ → List Cond → List ℕ
    → ℕ → Bool
meets_at summed living table conds key t =
    nat_lt 0 (living table key t)
    && list_all (λ cond. op_holds cond.op (summed table key cond.col t) cond.bound) conds

-- a filter holds a key at a moment
abbrev pub holds_at : (ℕ → List ℕ → Col → ℕ → ℕ) → (ℕ → List ℕ → ℕ → ℕ) → Filter → List ℕ → ℕ → Bool
holds_at summed living filter key t = meets_at summed living filter.table filter.conds key t

-- whether a filter holds a key, and when the clock changes that
abbrev pub IsVerdict : (ℕ → List ℕ → Col → ℕ → ℕ) → (ℕ → List ℕ → ℕ → ℕ) → Filter → ℕ → List ℕ
    → Verdict → Type 0
IsVerdict summed living filter now key verdict =
    Foretells (λ t. holds_at summed living filter key t) now verdict

-- that of a key that a filter doesn't hold, and never will by the clock alone
abbrev pub out : Verdict
out = record { holds = false; next = None }
