use Rattle.std.proofs.Common.{◌≡◌, ◌∙◌, ℕ, List, ap, subst}
use Rattle.std.specs.Prelude.{OnOk}
use Rattle.agg_types.specs.declared.column.Col.{Col}
use Rattle.agg_types.specs.declared.config.Rank.{Rank}
use Rattle.agg_types.specs.declared.config.Shape.{Shape}
use Rattle.agg_types.specs.Whats.{lent_cells}
use Rattle.fleet_model.specs.Machine.{with_row}
use Rattle.fleet_model.specs.Rows.{arrival_of}
use Rattle.fleet_model.specs.Values.{cols_of}
use Rattle.book_machine.specs.Leading.{AreLed}
use Rattle.book_rows.specs.Planned.{place_at}
use Rattle.book_rows.specs.Store.{InForce, put_arrival}
use Rattle.book_machine.proofs.Leading.{put_or_not}
use Rattle.book_machine.proofs.leaders.lead_and_put.Goals as goal

pub returns-clause-ok : goal.returns-clause-ok
returns-clause-ok c =
    subst (λ (cols : List (Col × ℕ)). OnOk c.put.result
    (c.put.new.self ≡ record c.args.rows.now {
      rows =
          with_row c.args.t c.args.rows.now.rows (place_at c.args.at)
          (put_arrival c.args.t c.args.life cols (lent_cells c.args.cells));
    }))
    (c.cols_of.ensures ∙ ap (λ (tables : List Shape). cols_of tables c.args.at.table)
    c.as_slice-tables.ensures) c.put.ensures.ok

pub returns-clause-led : goal.returns-clause-led
returns-clause-led c =
    let config = c.args.config.now in
    let leaders = c.lead.new.leaders in
    let after : InForce = record c.args.rows.now {
      rows =
          with_row c.args.t c.args.rows.now.rows (place_at c.args.at)
          (arrival_of config.tables c.args.at.table c.args.t c.args.life (lent_cells c.args.cells));
    } in
    put_or_not (λ (s : InForce). AreLed config.tables config.ranks s.rows c.args.t leaders)
    c.put.result c.args.rows.now after c.put.new.self
    (subst (λ (cols : List (Col × ℕ)). OnOk c.put.result
    (c.put.new.self ≡ record c.args.rows.now {
      rows =
          with_row c.args.t c.args.rows.now.rows (place_at c.args.at)
          (put_arrival c.args.t c.args.life cols (lent_cells c.args.cells));
    }))
    (c.cols_of.ensures ∙ ap (λ (tables : List Shape). cols_of tables c.args.at.table)
    c.as_slice-tables.ensures) c.put.ensures.ok)
    c.put.ensures.err
    (subst (λ (ranks : List Rank). AreLed config.tables ranks c.args.rows.now.rows c.args.t leaders)
    c.as_slice.ensures
    (subst (λ (tables : List Shape). AreLed tables c.as_slice.result.now c.args.rows.now.rows
    c.args.t leaders) c.as_slice-tables.ensures c.lead.ensures.led))
    (subst (λ (ranks : List Rank). AreLed config.tables ranks after.rows c.args.t leaders)
    c.as_slice.ensures
    (subst (λ (tables : List Shape). AreLed tables c.as_slice.result.now
    (with_row c.args.t c.args.rows.now.rows (place_at c.args.at)
    (arrival_of tables c.args.at.table c.args.t c.args.life (lent_cells c.args.cells))) c.args.t
    leaders)
    c.as_slice-tables.ensures (c.in_ok-lead.ensures.put c.args.life)))
