-- What contracts see of standing filters: each with the keys on which its verdict isn't `out`, in
-- order, and their verdicts.
use Rattle.std.specs.Prelude.{◌≡◌, ◌≢◌, ◌==◌, ◌&&◌, ◌⊎◌, ℕ, ◌≤◌, Bool, true, List, [], Option}
use Rattle.std.specs.Prelude.{None, Some, count_by, filter, if◌then◌else◌, map, slice_index_or}
use Rattle.std.specs.Prelude.{unwrap_or}
use Rattle.std.specs.BTreeMap.{is_at}
use Rattle.std.specs.Cmp.Lexicographic.{slice_cmp}
use Rattle.std.specs.List.{AllByRecursion, AllZip, list_any}
use Rattle.std.specs.Map.{lookup}
use Rattle.std.specs.Ordering.{nat_cmp}
use Rattle.agg_types.specs.Key.{is_short}
use Rattle.agg_types.specs.declared.column.Col.{Col}
use Rattle.agg_types.specs.declared.config.Filter.{Filter}
use Rattle.standing_filters.specs.Verdicts.{IsVerdict, out}
use Rattle.standing_filters.specs.declared.judging.Verdict.{Verdict}

-- a standing filter and the verdicts on its keys
pub record Watched : Type 0 where
  pub filter : Filter
  pub kept : List (List ℕ × Verdict)

-- standing filters, and what is there for judgements to come
pub record AllWatched : Type 0 where
  pub filters : List Watched
  -- the table whose filters have room for a verdict, if there is one
  pub ready : Option ℕ
  -- the key of which there is a copy for each of them, if there is one
  pub copied : Option (List ℕ)

-- a judgement of a key is sure to have its memory: there is room for a verdict in each filter of
-- its table, and a copy of the key for it, which a short one doesn't need
abbrev pub IsReady : ℕ → List ℕ → AllWatched → Type 0
IsReady table key s = (s.ready ≡ Some table) × ((is_short key ≡ true) ⊎ (s.copied ≡ Some key))

-- how many of some filters are of a table
abbrev pub filters_of : ℕ → List Watched → ℕ
filters_of table filters = count_by (λ w. w.filter.table == table) filters

-- the verdict on a key: `out` where none is kept
abbrev pub verdict_at : List (List ℕ × Verdict) → List ℕ → Verdict
verdict_at kept key = unwrap_or (lookup (is_at (slice_cmp nat_cmp key)) kept) out

-- no filter has a verdict on a key but `out`
abbrev pub HaveNone : List ℕ → List Watched → Type 0
HaveNone key filters = AllByRecursion (λ w. verdict_at w.kept key ≡ out) filters

-- a filter that holds no key, and never will by the clock alone
abbrev pub unheld : Filter → Watched
unheld filter = record { filter = filter; kept = [] }

-- the keys that a filter holds
abbrev pub keys_held : List (List ℕ × Verdict) → List (List ℕ)
keys_held kept = map (λ e. e.0) (filter (λ e. e.1.holds) kept)

abbrev pub no_filter : Filter
no_filter = record { name = []; table = 0; conds = [] }

-- the verdicts of the filter at a position
abbrev pub verdicts_of : AllWatched → ℕ → List (List ℕ × Verdict)
verdicts_of standing position = (slice_index_or standing.filters position (unheld no_filter)).kept

-- the first moment at which the verdict on some key changes, or none where none ever does
abbrev pub IsFirstChange : List (List ℕ × Verdict) → Option ℕ → Type 0
IsFirstChange kept None = (key : List ℕ) → (verdict_at kept key).next ≡ None
IsFirstChange kept (Some t) = ((key : List ℕ) × ((verdict_at kept key).next ≡ Some t))
    × ((key : List ℕ) (u : ℕ) → (verdict_at kept key).next ≡ Some u → t ≤ u)

-- A filter of the key's table has that key's verdict at a moment, and its other verdicts are what
-- they were. A filter of another table is what it was.
pub record IsTouched (summed : ℕ → List ℕ → Col → ℕ → ℕ) (living : ℕ → List ℕ → ℕ → ℕ) (table : ℕ)
    (key : List ℕ) (now : ℕ) (old new : Watched) : Type 0 where
  pub filter : new.filter ≡ old.filter
  pub judged : old.filter.table ≡ table
      → IsVerdict summed living old.filter now key (verdict_at new.kept key)
  pub others : (other : List ℕ) → other ≢ key
      → verdict_at new.kept other ≡ verdict_at old.kept other
  pub elsewhere : old.filter.table ≢ table → new.kept ≡ old.kept

-- each of some filters
abbrev pub AreTouched : (ℕ → List ℕ → Col → ℕ → ℕ) → (ℕ → List ℕ → ℕ → ℕ) → ℕ → List ℕ → ℕ
    → List Watched → List Watched → Type 0
AreTouched summed living table key now old new =
    AllZip (λ a b. IsTouched summed living table key now a b) old new

-- A filter of a table has no verdict but `out` on keys that are gone, and its other verdicts are
-- what they were. A filter of another table is what it was.
pub record IsForgotten (table : ℕ) (is_gone : List ℕ → Bool) (old new : Watched) : Type 0 where
  pub filter : new.filter ≡ old.filter
  pub kept : (key : List ℕ) → verdict_at new.kept key
      ≡ (if (old.filter.table == table) && is_gone key then out else verdict_at old.kept key)

-- each of some filters
abbrev pub AreForgotten : ℕ → (List ℕ → Bool) → List Watched → List Watched → Type 0
AreForgotten table is_gone old new = AllZip (λ a b. IsForgotten table is_gone a b) old new

-- whether a key is one of these
abbrev pub is_among : List (List ℕ) → List ℕ → Bool
is_among keys key = list_any (λ other. is_at (slice_cmp nat_cmp key) other) keys
