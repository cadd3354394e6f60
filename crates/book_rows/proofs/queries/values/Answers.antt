use Rattle.agg_types.specs.declared.column.Col.{Col}
use Rattle.book_rows.specs.Shown.{rows_worth}
use Rattle.book_rows.proofs.Columns.{all_done, nothing_of_rows, put_next}
use Rattle.book_rows.proofs.queries.values.Goals as goal

pub loop-stored-preserved : goal.loop-stored-preserved
loop-stored-preserved c =
    put_next (λ (col : Col). rows_worth c.args.cols.now col c.args.t c.args.rows.now)
    c.args.cols.now
    c.loop-stored.stored-index _ c.loop-stored.values c.place.result c.worth.result
    c.loop-stored-test.true c.loop-stored.invariant c.place.ensures c.worth.ensures.exact

pub returns : goal.returns
returns c =
    all_done (λ (col : Col). rows_worth c.args.cols.now col c.args.t c.args.rows.now)
    c.args.cols.now (nothing_of_rows c.args.cols.now c.args.t c.args.rows.now)
    c.loop-stored.stored-index c.loop-stored.values c.loop-stored-test.false c.loop-stored.invariant
