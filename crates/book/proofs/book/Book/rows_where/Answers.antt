use Rattle.std.proofs.Common.{◌≡◌, ◌∙◌, ℕ, ap, map}
use Rattle.std.proofs.lemmas.Result.{IfOk-weaker}
use Rattle.fleet_model.specs.Keys.{holds, key_rows}
use Rattle.fleet_model.specs.State.{State}
use Rattle.fleet_model.specs.Values.{cols_of}
use Rattle.book_frame.specs.Lent.{listed_where, shown_row}
use Rattle.book_rows.specs.Listing.{ListsMeeting}
use Rattle.book_rows.proofs.KeysMeeting.{filtering, lists_where, live_rows}
use Rattle.book.proofs.book.Book.rows_where.Goals as goal

pub returns : goal.returns
returns c =
    let state : State = c.self.inside.machine in
    let table : ℕ = c.args.table in
    let conds = c.args.conds.now in
    let sound = c.self.invariant.sound in
    let law = c.a_key_answers_by_its_rows.ensures in
    let set = c.a_set_is_the_keys_that_hold.ensures in
    IfOk-weaker c.meeting.result (λ rows. ListsMeeting state.rows table
    (cols_of state.config.tables table) conds state.moment rows)
    (λ rows. map shown_row rows ≡ listed_where c.args.self.now table conds)
    (λ rows lists. lists_where state table conds rows lists
    (λ key. law.any (key_rows state.rows table key) state.moment
    (live_rows state table conds key sound.live))
    (λ key. law.sums state table key sound.live)
    (set.is_one state (filtering state table conds) state.moment sound.ordered)
    (set.only (λ key. holds state (filtering state table conds) key state.moment))
    ∙ ap (λ (s : State). listed_where s table conds) c.self.view_is)
    c.meeting.ensures
