use Rattle.std.proofs.Common.{◌∙◌, List, ap}
use Rattle.std.specs.Prelude.{filter}
use Rattle.agg_types.specs.declared.row_key.RowKey.{RowKey}
use Rattle.fleet_model.specs.Moments.{is_live}
use Rattle.fleet_model.specs.declared.arrival.Arrival.{Arrival}
use Rattle.peer_rows.specs.Ends.{lives_at}
use Rattle.peer_rows.specs.Rows.{RowMap}
use Rattle.book_rows.specs.Shown.{arrivals}
use Rattle.book_rows.specs.Store.{InForce}
use Rattle.book_rows.proofs.Inside.{living_shown, rows_left}
use Rattle.book_rows.proofs.store.Store.end_rows.Goals as goal

pub invariant_of-self : goal.invariant_of-self
invariant_of-self c =
    rows_left c.self.inside.size.peers c.self.inside.size.tables c.self.inside.rows
    c.end_rows.new.self c.self.invariant c.end_rows.ensures.ordered
    (λ e. lives_at c.args.t e.1) c.end_rows.ensures.after

pub returns : goal.returns
returns c =
    let made : RowMap → InForce = λ rows. record {
      peers = c.self.inside.size.peers;
      tables = c.self.inside.size.tables;
      rows = arrivals rows.entries;
    } in
    let kept : List (RowKey × Arrival) → InForce = λ rows. record {
      peers = c.self.inside.size.peers;
      tables = c.self.inside.size.tables;
      rows = rows;
    } in
    let living : InForce → InForce = λ s. record s {
      rows = filter (λ (row : RowKey × Arrival). is_live c.args.t row.1) s.rows;
    } in
    ap made c.end_rows.ensures.after
    ∙ ap kept (living_shown c.args.t c.self.inside.rows.entries)
    ∙ ap living c.self.view_is
