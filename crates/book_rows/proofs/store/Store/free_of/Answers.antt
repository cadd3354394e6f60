use Rattle.std.proofs.Common.{◌≡◌, ◌-◌, ◌≤◌, Bool, nat_lt, length, ap, ◌∙◌, subst}
use Rattle.std.proofs.Common.{arith}
use Rattle.std.specs.List.{count_by}
use Rattle.agg_types.specs.declared.row_key.RowKey.{RowKey}
use Rattle.fleet_model.specs.declared.arrival.Arrival.{Arrival}
use Rattle.book_rows.specs.Store.{InForce}
use Rattle.book_rows.proofs.Together.{less_more, none_yet, of_all_tables, of_no_table, one_table_more}
use Rattle.book_rows.proofs.store.Store.free_of.Goals as goal

pub loop-table-init : goal.loop-table-init
loop-table-init c = none_yet c.args.most _ (of_no_table c.args.self.now.rows)

pub loop-table-preserved : goal.loop-table-preserved
loop-table-preserved c =
    let table = c.loop-table.table in
    less_more c.args.most c.loop-table.free c.free_beside-free.result _ _ _
    c.loop-table.invariant c.free_beside-free.ensures
    (one_table_more table c.args.self.now.rows)

pub returns : goal.returns
returns c =
    let first : RowKey × Arrival → Bool = λ row. nat_lt row.0.table c.loop-table.table in
    let left : c.loop-table.free ≡ c.args.most - count_by first c.args.self.now.rows =
    c.loop-table.invariant in
    let past : c.self.inside.size.tables ≤ c.loop-table.table = omega arith in
    let whole : count_by first c.args.self.now.rows ≡ length c.args.self.now.rows =
    subst (λ (s : InForce). count_by first s.rows ≡ length s.rows) c.self.view_is
    (of_all_tables c.self.inside.size.peers c.self.inside.size.tables c.loop-table.table past
    c.self.inside.rows.entries c.self.invariant.inside) in
    left ∙ ap (λ n. c.args.most - n) whole
