use Rattle.std.proofs.Common.{◌≡◌, [], subst, sym}
use Rattle.std.specs.Prelude.{filter}
use Rattle.std.proofs.lemmas.Result.{IfOk-weaker}
use Rattle.peer_rows.specs.Places.{Keys}
use Rattle.book_rows.specs.Listing.{AreMeeting, rows_meet}
use Rattle.book_rows.proofs.KeysMeeting.{met_of_walk}
use Rattle.book_rows.proofs.listing.found.Goals as goal

pub returns-in-None : goal.returns-in-None
returns-in-None c =
    subst (λ (l : Keys). AreMeeting c.args.store.now.rows c.args.table c.args.cols.now
    c.args.conds.now c.args.t l) (sym c.new.ensures.items)
    (met_of_walk c.args.store.now.rows c.args.table c.args.cols.now c.args.conds.now c.args.t []
    c.in-None.ensures)

pub returns-in-Some : goal.returns-in-Some
returns-in-Some c =
    IfOk-weaker c.kept.result (λ keys. keys.items
    ≡ filter (λ e. rows_meet c.args.cols.now c.args.conds.now c.args.t e.1) c.in-Some.walk)
    (λ keys. AreMeeting c.args.store.now.rows c.args.table c.args.cols.now c.args.conds.now c.args.t
    keys.items)
    (λ keys is. subst (λ (l : Keys). AreMeeting c.args.store.now.rows c.args.table c.args.cols.now
    c.args.conds.now c.args.t l) (sym is)
    (met_of_walk c.args.store.now.rows c.args.table c.args.cols.now c.args.conds.now c.args.t
    c.in-Some.walk c.in-Some.ensures)) c.kept.ensures
