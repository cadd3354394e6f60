use Rattle.agg_types.specs.declared.column.Col.{Col}
use Rattle.fleet_model.specs.Keys.{row_worth}
use Rattle.book_rows.specs.Shown.{as_arrival}
use Rattle.book_rows.proofs.Columns.{all_done, nothing_of_row, put_next}
use Rattle.book.proofs.by_peer.row_values.Goals as goal

pub loop-stored-preserved : goal.loop-stored-preserved
loop-stored-preserved c =
    put_next (λ (col : Col). row_worth c.args.cols.now col c.args.t (as_arrival c.args.row.now))
    c.args.cols.now
    c.loop-stored.stored-index _ c.loop-stored.values c.place.result c.worth_alone.result
    c.loop-stored-test.true c.loop-stored.invariant c.place.ensures c.worth_alone.ensures

pub returns : goal.returns
returns c =
    all_done (λ (col : Col). row_worth c.args.cols.now col c.args.t (as_arrival c.args.row.now))
    c.args.cols.now
    (λ col none. nothing_of_row c.args.cols.now col c.args.t (as_arrival c.args.row.now) none)
    c.loop-stored.stored-index c.loop-stored.values c.loop-stored-test.false c.loop-stored.invariant
