use Rattle.std.proofs.Common.{◌∙◌, ℕ, List, ap}
use Rattle.agg_types.specs.declared.row_key.RowKey.{RowKey}
use Rattle.fleet_model.specs.declared.arrival.Arrival.{Arrival}
use Rattle.book_rows.specs.Store.{InForce}
use Rattle.book_machine.proofs.Clearing.{among_gone, cleared_all, cleared_where, table_gone, those_moved}
use Rattle.book_rows.proofs.Reading.{rest_left}
use Rattle.book_machine.proofs.clears.clear_where.Goals as goal

pub returns-then-all_meet-clause-ok : goal.returns-then-all_meet-clause-ok
returns-then-all_meet-clause-ok c =
    c.clear_table.ensures.rows
    ∙ ap (λ (rows : List (RowKey × Arrival)). record c.args.store.now { rows = rows })
    (cleared_all c.args.store.now.rows c.args.table c.args.cols.now c.args.conds.now c.args.t
    (c.all_meet.ensures c.if-all_meet.true))

pub returns-then-all_meet-clause-gone : goal.returns-then-all_meet-clause-gone
returns-then-all_meet-clause-gone c =
    ap (λ (s : InForce). s.rows) c.clear_table.ensures.rows
    ∙ table_gone c.args.table c.args.store.now.rows

pub returns-clause-ok : goal.returns-clause-ok
returns-clause-ok c =
    c.clear_keys.ensures.rows
    ∙ ap (λ (l : List (List ℕ)). rest_left c.args.table l c.args.store.now)
    c.as_slice.ensures.value
    ∙ ap (λ (rows : List (RowKey × Arrival)). record c.args.store.now { rows = rows })
    (cleared_where c.args.store.now.rows c.args.table c.args.cols.now c.args.conds.now c.args.t
    c.sort_unstable.new.self.items
    (those_moved c.args.store.now.rows c.args.table c.args.cols.now c.args.conds.now c.args.t
    c.in_ok-keys.keys.items c.sort_unstable.new.self.items c.in_ok-keys.ensures
    c.sort_unstable.ensures.permutation))

pub returns-clause-gone : goal.returns-clause-gone
returns-clause-gone c =
    ap (λ (s : InForce). s.rows) c.clear_keys.ensures.rows
    ∙ ap (λ (l : List (List ℕ)). (rest_left c.args.table l c.args.store.now).rows)
    c.as_slice.ensures.value
    ∙ among_gone c.args.table c.sort_unstable.new.self.items c.args.store.now.rows
