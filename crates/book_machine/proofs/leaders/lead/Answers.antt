use Rattle.std.proofs.Common.{arith}
use Rattle.agg_types.specs.Whats.{lent_cells}
use Rattle.fleet_model.specs.Machine.{with_row}
use Rattle.fleet_model.specs.Rows.{arrival_of}
use Rattle.book_machine.specs.Leading.{rank_at}
use Rattle.book_rows.specs.Planned.{place_at}
use Rattle.book_rows.specs.Store.{put_arrival}
use Rattle.book_machine.proofs.Leading.{apart_rows, elsewhere_rows, passed_more, rank_is, rank_worth}
use Rattle.book_machine.proofs.Leading.{touched_more, touched_stands}
use Rattle.book_machine.proofs.leaders.lead.Goals as goal
use Rattle.book_machine.proofs.leaders.lead.Goals.{then-rank-at+in_ok-touch, else-rank-at}

pub loop-list-preserved : goal.loop-list-preserved
loop-list-preserved c =
    let tables = c.args.tables.now in
    let ranks = c.args.ranks.now in
    let rows = c.args.rows.now.rows in
    let place = place_at c.args.at in
    let list = c.loop-list.list in
    let rank = rank_is ranks list c.index-ranks-list.result c.index-ranks-list.is
    c.loop-list-test.true in
    elim c.if-rank-at.branch [
      | then-rank-at+in_ok-touch w ↦ rw w.leaders-is (record {
        led = touched_stands tables ranks rows c.args.t list c.args.at.key.now
            w.worth_with-bound.result c.loop-list.leaders w.touch.new.self c.loop-list.invariant.led
            w.touch.ensures.others w.in_ok-touch.ensures.holds
            (rank_worth tables (λ cols. rows) c.args.t (rank_at ranks list)
            c.index-ranks-list.result c.cols_of-cols.result.now c.args.at.table
            c.args.at.key.now w.worth_with-bound.result rank w.if-rank-at.true
            c.cols_of-cols.ensures w.worth_with-bound.ensures.before);
        put = λ life. touched_more tables ranks rows
            (with_row c.args.t rows place (arrival_of tables c.args.at.table c.args.t life
            (lent_cells c.args.cells))) c.args.t list c.args.at.key.now w.worth_with-bound.result
            c.loop-list.leaders w.touch.new.self c.loop-list-test.true c.loop-list.invariant.led
            w.touch.ensures.others w.in_ok-touch.ensures.holds
            (rank_worth tables (λ cols. with_row c.args.t rows place
            (put_arrival c.args.t life cols (lent_cells c.args.cells))) c.args.t
            (rank_at ranks list) c.index-ranks-list.result c.cols_of-cols.result.now c.args.at.table
            c.args.at.key.now w.worth_with-bound.result rank w.if-rank-at.true
            c.cols_of-cols.ensures (w.worth_with-bound.ensures.after life))
            (λ other apart. apart_rows rows c.args.t place
            (arrival_of tables c.args.at.table c.args.t life (lent_cells c.args.cells))
            (rank_at ranks list).table other c.requires.ordered apart)
            (c.loop-list.invariant.put life);
      })
      | else-rank-at w ↦ rw w.leaders-is (record {
        led = c.loop-list.invariant.led;
        put = λ life. passed_more tables ranks rows
            (with_row c.args.t rows place (arrival_of tables c.args.at.table c.args.t life
            (lent_cells c.args.cells))) c.args.t list c.loop-list.leaders c.loop-list-test.true
            c.loop-list.invariant.led
            (λ other. elsewhere_rows rows c.args.t place (arrival_of tables c.args.at.table c.args.t
            life (lent_cells c.args.cells)) (rank_at ranks list) c.index-ranks-list.result other
            c.requires.ordered rank w.if-rank-at.false)
            (c.loop-list.invariant.put life);
      })
    ]

pub returns : goal.returns
returns c = record {
  led = c.loop-list.invariant.led;
  put = λ life. record {
    count = c.loop-list.invariant.led.count;
    each = λ list inside. c.loop-list.invariant.put life list (omega arith);
  };
}
