use Rattle.std.proofs.Common.{◌∙◌, ℕ, List, ap}
use Rattle.agg_types.specs.declared.column.Col.{Col}
use Rattle.agg_types.specs.declared.config.Shape.{Shape}
use Rattle.fleet_model.specs.Keys.{key_rows, worth_of}
use Rattle.fleet_model.specs.State.{State}
use Rattle.fleet_model.specs.Values.{cols_of}
use Rattle.book_machine.proofs.machine.Machine.worth.Goals as goal

pub returns : goal.returns
returns c =
    c.worth_at.ensures
    ∙ ap (λ (cols : List (Col × ℕ)). worth_of cols (key_rows c.self.inside.rows.rows c.args.table
    c.args.key.now) c.args.col c.args.t) (c.cols_of-cols.ensures
    ∙ ap (λ (tables : List Shape). cols_of tables c.args.table) c.as_slice.ensures)
    ∙ ap (λ (s : State). worth_of (cols_of s.config.tables c.args.table)
    (key_rows s.rows c.args.table c.args.key.now) c.args.col c.args.t) c.self.view_is
