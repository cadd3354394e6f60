use Rattle.std.proofs.Common.{◌∙◌, ℕ, List, ap, subst}
use Rattle.std.proofs.lemmas.Result.{IfOk-weaker}
use Rattle.agg_types.specs.declared.column.Col.{Col}
use Rattle.agg_types.specs.declared.config.Shape.{Shape}
use Rattle.fleet_model.specs.State.{State}
use Rattle.fleet_model.specs.Values.{cols_of}
use Rattle.book_rows.specs.First.{ListsFirst}
use Rattle.book_machine.proofs.machine.Machine.first_meeting.Goals as goal

pub returns : goal.returns
returns c =
    let table = c.args.table in
    let sought = c.args.sought in
    IfOk-weaker c.first_meeting.result (λ rows. ListsFirst c.self.inside.rows.rows table
    c.cols_of-cols.result.now c.self.inside.moment sought rows)
    (λ rows. ListsFirst c.args.self.now.rows table (cols_of c.args.self.now.config.tables table)
    c.args.self.now.moment sought rows)
    (λ rows lists. subst (λ (s : State). ListsFirst s.rows table (cols_of s.config.tables table)
    s.moment sought rows) c.self.view_is
    (subst (λ (cols : List (Col × ℕ)). ListsFirst c.self.inside.rows.rows table cols
    c.self.inside.moment sought rows) (c.cols_of-cols.ensures
    ∙ ap (λ (tables : List Shape). cols_of tables table) c.as_slice.ensures) lists))
    c.first_meeting.ensures
