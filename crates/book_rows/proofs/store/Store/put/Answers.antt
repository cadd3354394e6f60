use Rattle.std.proofs.Common.{◌≡◌, ◌∙◌, List, not, true, false, sym, ap}
use Rattle.std.proofs.lemmas.Result.{on_ok_weaker}
use Rattle.agg_types.specs.Whats.{lent_cells}
use Rattle.agg_types.specs.declared.row_key.RowKey.{RowKey}
use Rattle.fleet_model.specs.Machine.{with_row}
use Rattle.fleet_model.specs.Moments.{is_live}
use Rattle.fleet_model.specs.declared.arrival.Arrival.{Arrival}
use Rattle.book_rows.specs.Planned.{place_at}
use Rattle.book_rows.specs.Shown.{arrivals}
use Rattle.book_rows.specs.Store.{InForce, put_arrival}
use Rattle.book_rows.proofs.Inside.{with_ended, with_living}
use Rattle.book_rows.proofs.store.Store.put.Goals as goal

pub invariant_of-self : goal.invariant_of-self
invariant_of-self c = c.drop_row.ensures.kept

pub returns-then-is_over-clause-ok : goal.returns-then-is_over-clause-ok
returns-then-is_over-clause-ok c =
    let cells = lent_cells c.args.cells in
    let row = put_arrival c.args.t c.args.life c.args.cols.now cells in
    let over : is_live c.args.t row ≡ false =
    c.is_over.ensures c.args.t c.args.cols.now cells ∙ ap not c.if-is_over.true in
    let kept : List (RowKey × Arrival) → InForce =
    λ rows. record {
      peers = c.self.inside.size.peers;
      tables =
          c.self.inside.size.tables;
      rows = rows;
    } in
    ap kept (c.drop_row.ensures.after
    ∙ sym (with_ended c.args.t (arrivals c.self.inside.rows.entries)
    (place_at c.args.at) row over))
    ∙ ap (λ (s : InForce). record s { rows = with_row c.args.t s.rows (place_at c.args.at) row })
    c.self.view_is

pub returns-clause-ok : goal.returns-clause-ok
returns-clause-ok c =
    let cells = lent_cells c.args.cells in
    let row = put_arrival c.args.t c.args.life c.args.cols.now cells in
    let live : is_live c.args.t row ≡ true =
    c.is_over.ensures c.args.t c.args.cols.now cells ∙ ap not c.if-is_over.false in
    on_ok_weaker c.put_living.result
    (λ put. put ∙ ap (λ (rows : List (RowKey × Arrival)). record c.args.self.now { rows = rows })
    (sym (with_living c.args.t c.args.self.now.rows (place_at c.args.at) row live)))
    c.put_living.ensures.ok
