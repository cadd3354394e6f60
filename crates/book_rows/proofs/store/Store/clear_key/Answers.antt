use Rattle.std.proofs.Common.{◌∙◌, ◌==◌, ◌&&◌, not, List, sym, ap, arith}
use Rattle.std.specs.Prelude.{filter}
use Rattle.agg_types.specs.declared.row_key.RowKey.{RowKey}
use Rattle.fleet_model.specs.Values.{same_key}
use Rattle.fleet_model.specs.declared.arrival.Arrival.{Arrival}
use Rattle.peer_rows.specs.Rows.{RowMap}
use Rattle.book_rows.specs.Shown.{arrivals}
use Rattle.book_rows.specs.Store.{InForce}
use Rattle.book_rows.proofs.Reading.{cleared_shown, untouched}
use Rattle.book_rows.proofs.store.Store.clear_key.Goals as goal

pub invariant_of-self : goal.invariant_of-self
invariant_of-self c = c.drop_key.ensures.kept

pub returns-then-table-self : goal.returns-then-table-self
returns-then-table-self c =
    let made : RowMap → InForce = λ rows. record {
      peers = c.self.inside.size.peers;
      tables =
          c.self.inside.size.tables;
      rows = arrivals rows.entries;
    } in
    let kept : List (RowKey × Arrival) → InForce =
    λ rows. record {
      peers = c.self.inside.size.peers;
      tables =
          c.self.inside.size.tables;
      rows = rows;
    } in
    let left : InForce → InForce =
    λ s. record s {
      rows = filter (λ (row : RowKey × Arrival). not ((row.0.table == c.args.table)
          && same_key c.args.key.now row.0.key)) s.rows;
    } in
    ap made c.drop_key.ensures.after
    ∙ ap kept (cleared_shown c.args.table c.args.key.now c.self.inside.rows.entries)
    ∙ ap left c.self.view_is

pub returns-else-table-self : goal.returns-else-table-self
returns-else-table-self c =
    let kept : List (RowKey × Arrival) → InForce =
    λ rows. record {
      peers = c.self.inside.size.peers;
      tables =
          c.self.inside.size.tables;
      rows = rows;
    } in
    let left : InForce → InForce =
    λ s. record s {
      rows = filter (λ (row : RowKey × Arrival). not ((row.0.table == c.args.table)
          && same_key c.args.key.now row.0.key)) s.rows;
    } in
    sym c.self.view_is ∙ ap kept (untouched c.self.inside.size.peers c.self.inside.size.tables
    c.args.table c.args.key.now c.self.inside.rows.entries (omega arith)
    c.self.invariant.inside) ∙ ap left c.self.view_is
