use Rattle.std.proofs.Common.{◌≡◌, ℕ, List, [], sym, subst}
use Rattle.std.specs.Prelude.{filter, map}
use Rattle.std.proofs.lemmas.Result.{IfOk-weaker}
use Rattle.peer_rows.specs.Places.{Keys}
use Rattle.book_rows.specs.Listing.{AreThoseMeeting, rows_meet}
use Rattle.book_machine.proofs.Clearing.{those_of_met}
use Rattle.book_rows.proofs.KeysMeeting.{met_of_walk}
use Rattle.book_machine.proofs.clears.keys_that_meet.Goals as goal

pub returns-in-None : goal.returns-in-None
returns-in-None c =
    subst (λ (keys : List (List ℕ)). AreThoseMeeting c.args.store.now.rows c.args.table
    c.args.cols.now c.args.conds.now c.args.t keys) (sym c.new.ensures.items)
    (those_of_met c.args.store.now.rows c.args.table c.args.cols.now c.args.conds.now c.args.t []
    (λ key. c.a_key_answers_by_its_rows.ensures.conditions c.args.cols.now
    c.args.store.now.rows c.args.table key c.args.t c.args.conds.now)
    (met_of_walk c.args.store.now.rows c.args.table c.args.cols.now c.args.conds.now c.args.t []
    c.in-None.ensures))

pub returns-in-Some : goal.returns-in-Some
returns-in-Some c =
    let met : Keys = filter (λ e. rows_meet c.args.cols.now c.args.conds.now c.args.t e.1)
    c.in-Some.walk in
    IfOk-weaker c.kept_keys.result (λ keys. keys.items ≡ map (λ e. e.0) met)
    (λ keys. AreThoseMeeting c.args.store.now.rows c.args.table c.args.cols.now c.args.conds.now
    c.args.t keys.items)
    (λ keys is. subst (λ (l : List (List ℕ)). AreThoseMeeting c.args.store.now.rows c.args.table
    c.args.cols.now c.args.conds.now c.args.t l) (sym is)
    (those_of_met c.args.store.now.rows c.args.table c.args.cols.now c.args.conds.now c.args.t met
    (λ key. c.a_key_answers_by_its_rows.ensures.conditions c.args.cols.now
    c.args.store.now.rows c.args.table key c.args.t c.args.conds.now)
    (met_of_walk c.args.store.now.rows c.args.table c.args.cols.now c.args.conds.now c.args.t
    c.in-Some.walk c.in-Some.ensures))) c.kept_keys.ensures
