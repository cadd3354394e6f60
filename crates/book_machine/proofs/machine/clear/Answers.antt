use Rattle.std.proofs.Common.{◌∙◌, ℕ, List, sym, ap}
use Rattle.fleet_model.specs.Keys.{Rows}
use Rattle.standing_filters.specs.Watched.{is_among}
use Rattle.book_machine.specs.Gone.{without_keys}
use Rattle.book_rows.specs.Store.{InForce}
use Rattle.book_machine.proofs.Clearing.{one_gone, table_gone}
use Rattle.book_machine.proofs.Leading.{led_by}
use Rattle.book_machine.proofs.machine.clear.Goals as goal

pub returns-in-All-clause-ok : goal.returns-in-All-clause-ok
returns-in-All-clause-ok c =
    rw c.in-All.is (c.clear_table.ensures.rows
    ∙ ap (λ (rows : Rows). record c.args.rows.now { rows = rows })
    (table_gone c.args.table c.args.rows.now.rows))

pub returns-in-All-clause-gone : goal.returns-in-All-clause-gone
returns-in-All-clause-gone c =
    ap (λ (s : InForce). s.rows) c.clear_table.ensures.rows
    ∙ table_gone c.args.table c.args.rows.now.rows

pub returns-in-All-clause-led : goal.returns-in-All-clause-led
returns-in-All-clause-led c =
    led_by c.args.config.now.tables c.args.config.now.ranks c.as_slice-ranks.result.now
    c.args.rows.now.rows c.clear_table.new.store.rows c.args.t c.args.t c.args.leaders.now
    c.clear_table.new.leaders
    c.as_slice-ranks.ensures c.clear_table.ensures.led c.requires

pub returns-in_ok-alone-in-One-clause-led : goal.returns-in_ok-alone-in-One-clause-led
returns-in_ok-alone-in-One-clause-led c =
    led_by c.args.config.now.tables c.args.config.now.ranks c.as_slice-ranks.result.now
    c.args.rows.now.rows c.clear_one.new.store.rows c.args.t c.args.t c.args.leaders.now
    c.clear_one.new.leaders c.as_slice-ranks.ensures c.clear_one.ensures.led c.requires

pub returns-in_err-alone-in-One-clause-led : goal.returns-in_err-alone-in-One-clause-led
returns-in_err-alone-in-One-clause-led c =
    led_by c.args.config.now.tables c.args.config.now.ranks c.as_slice-ranks.result.now
    c.args.rows.now.rows c.clear_one.new.store.rows c.args.t c.args.t c.args.leaders.now
    c.clear_one.new.leaders c.as_slice-ranks.ensures c.clear_one.ensures.led c.requires

pub returns-in-Conds-clause-led : goal.returns-in-Conds-clause-led
returns-in-Conds-clause-led c =
    led_by c.args.config.now.tables c.args.config.now.ranks c.as_slice-ranks.result.now
    c.args.rows.now.rows c.clear_where.new.store.rows c.args.t c.args.t c.args.leaders.now
    c.clear_where.new.leaders c.as_slice-ranks.ensures c.clear_where.ensures.led c.requires

pub returns-in_ok-alone-in-One-clause-gone : goal.returns-in_ok-alone-in-One-clause-gone
returns-in_ok-alone-in-One-clause-gone c =
    let rows : Rows = c.args.rows.now.rows in
    ap (λ (s : InForce). s.rows) c.in_ok-alone-in-One.ensures.ok
    ∙ one_gone c.args.table _ rows
    ∙ ap (λ (keys : List (List ℕ)). without_keys c.args.table (is_among keys) rows)
    (sym c.in_ok-alone-in-One.ensures.gone)
