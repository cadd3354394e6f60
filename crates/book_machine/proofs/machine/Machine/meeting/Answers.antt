use Rattle.std.proofs.Common.{◌∙◌, ℕ, List, ap, subst}
use Rattle.std.proofs.lemmas.Result.{IfOk-weaker}
use Rattle.agg_types.specs.declared.column.Col.{Col}
use Rattle.agg_types.specs.declared.config.Shape.{Shape}
use Rattle.fleet_model.specs.State.{State}
use Rattle.fleet_model.specs.Values.{cols_of}
use Rattle.book_rows.specs.Listing.{ListsMeeting}
use Rattle.book_machine.proofs.machine.Machine.meeting.Goals as goal

pub returns : goal.returns
returns c =
    let table = c.args.table in
    let conds = c.args.conds.now in
    IfOk-weaker c.meeting.result (λ rows. ListsMeeting c.self.inside.rows.rows table
    c.cols_of-cols.result.now conds c.self.inside.moment rows)
    (λ rows. ListsMeeting c.args.self.now.rows table (cols_of c.args.self.now.config.tables table)
    conds c.args.self.now.moment rows)
    (λ rows lists. subst (λ (s : State). ListsMeeting s.rows table (cols_of s.config.tables table)
    conds s.moment rows) c.self.view_is
    (subst (λ (cols : List (Col × ℕ)). ListsMeeting c.self.inside.rows.rows table cols conds
    c.self.inside.moment rows) (c.cols_of-cols.ensures
    ∙ ap (λ (tables : List Shape). cols_of tables table) c.as_slice.ensures) lists))
    c.meeting.ensures
