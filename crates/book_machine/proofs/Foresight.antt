-- What is read of a key as the clock goes on is what a filter says of it.
use Rattle.std.proofs.Common.{◌≡◌, ℕ, ◌+◌, ◌-◌, ◌^◌, ◌≤◌, ◌<◌, Bool, true, false, ◌&&◌, ◌||◌}
use Rattle.std.proofs.Common.{nat_le, nat_lt, List, [], ◌∷◌}
use Rattle.std.proofs.Common.{refl, sym, ap, ◌∙◌, arith}
use Rattle.std.proofs.lemmas.Bool.Decides.{nat_tests}
use Rattle.std.specs.List.{list_all}
use Rattle.agg_types.specs.Op.{op_holds}
use Rattle.agg_types.specs.declared.column.Col.{Col}
use Rattle.agg_types.specs.declared.config.Filter.{Filter}
use Rattle.fleet_model.specs.Changes.{rows_flat_from}
use Rattle.fleet_model.specs.Keys.{Rows, has_live, holds, key_rows, meet_at, one_if}
use Rattle.fleet_model.specs.Moments.{is_live}
use Rattle.fleet_model.specs.Next.{table_flat_from}
use Rattle.fleet_model.specs.State.{State}
use Rattle.fleet_model.specs.Values.{cols_of}
use Rattle.fleet_model.proofs.KeyChanges.{key-flat}
use Rattle.fleet_model.proofs.KeyChanges.{rows-within}
use Rattle.book_machine.specs.Foreseen.{living_of, living_within}
use Rattle.book_machine.specs.Foreseen.{within, worth_within}

pub bool_same : (a b : Bool) → ((a ≡ b → ⊥) → ⊥) → a ≡ b
bool_same true true h = refl
bool_same false false h = refl
bool_same true false h = absurd (h (λ e. cc))
bool_same false true h = absurd (h (λ e. cc))

-- ---- what is read of a key is what the filter says of it
some_more : (n : ℕ) → nat_lt 0 (1 + n) ≡ true
some_more n = grind (arith, nat_tests)

pub live_any : (rows : Rows) (t : ℕ) → nat_lt 0 (living_of rows t) ≡ has_live rows t
live_any [] t = refl
live_any (row ∷ rows) t = by (is_live t row.1) (live_any rows t)
  where
    by : (b : Bool) → nat_lt 0 (living_of rows t) ≡ has_live rows t
        → nat_lt 0 (one_if b + living_of rows t) ≡ (b || has_live rows t)
    by true rest = some_more (living_of rows t)
    by false rest = let none : 0 + living_of rows t ≡ living_of rows t = omega arith in
        ap (nat_lt 0) none ∙ rest

beyond : (state : State) (filtering : Filter) (key : List ℕ)
    → table_flat_from state filtering.table < 2 ^ 64 → (t : ℕ)
    → holds state filtering key (within t) ≡ holds state filtering key t
beyond state filtering key short t = by (nat_le t (2 ^ 64 - 1)) refl
  where
    flat : rows_flat_from (cols_of state.config.tables filtering.table)
        (key_rows state.rows filtering.table key) ≤ 2 ^ 64 - 1
    flat =
        let inside : rows_flat_from (cols_of state.config.tables filtering.table)
        (key_rows state.rows filtering.table key) ≤ table_flat_from state filtering.table =
        rows-within (cols_of state.config.tables filtering.table) state.rows
        filtering.table key in
        omega arith

    by : (b : Bool) → nat_le t (2 ^ 64 - 1) ≡ b → holds state filtering key (within t)
        ≡ holds state filtering key t
    by true e = let up : t ≤ 2 ^ 64 - 1 = grind (arith, nat_tests) in let same : within t ≡ t =
        omega arith in ap (λ u. holds state filtering key u) same
    by false e =
        let up : 2 ^ 64 - 1 < t = grind (arith, nat_tests) in
        let same : within t ≡ 2 ^ 64 - 1 = omega arith in
        ap (λ u. holds state filtering key u) same
        ∙ sym (key-flat state filtering key (2 ^ 64 - 1) t flat (omega arith))

pub holds_within : (state : State) (filtering : Filter) (key : List ℕ) (cols : List (Col × ℕ))
    → cols ≡ cols_of state.config.tables filtering.table
    → table_flat_from state filtering.table < 2 ^ 64 → (t : ℕ)
    → (nat_lt 0 (living_within (key_rows state.rows filtering.table key) t)
    && list_all (λ cond. op_holds cond.op
    (worth_within cols (key_rows state.rows filtering.table key) cond.col t) cond.bound)
    filtering.conds) ≡ holds state filtering key t
holds_within state filtering key cols is short t =
    let rows = key_rows state.rows filtering.table key in
    ap (λ b. b && meet_at cols rows filtering.conds (within t)) (live_any rows (within t))
    ∙ ap (λ c. has_live rows (within t) && meet_at c rows filtering.conds (within t)) is
    ∙ beyond state filtering key short t
