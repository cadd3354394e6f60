use Rattle.std.proofs.Common.{[], subst, sym}
use Rattle.std.specs.Prelude.{filter}
use Rattle.std.proofs.lemmas.Result.{IfOk-weaker}
use Rattle.book_rows.specs.First.{AreFirst, ListsFirst, is_sought}
use Rattle.book_rows.specs.Listing.{summed_up}
use Rattle.book_rows.proofs.FirstSought.{first_sought}
use Rattle.book_rows.proofs.Firsts.{first_none}
use Rattle.book_rows.proofs.first.found.Goals as goal

pub first_of-requires : goal.first_of-requires
first_of-requires c = record { once = c.in-Some.ensures.once }

pub returns-in-None : goal.returns-in-None
returns-in-None c =
    subst (λ keys. ListsFirst c.args.store.now.rows c.args.table c.args.cols.now c.args.t
    c.args.sought (summed_up c.args.cols.now c.args.t keys)) (sym c.new.ensures.items)
    (first_sought c.args.store.now.rows c.args.table c.args.cols.now c.args.t c.args.sought [] []
    c.in-None.ensures (first_none c.args.sought.most))

pub returns-in-Some : goal.returns-in-Some
returns-in-Some c =
    IfOk-weaker c.first_of.result (λ keys. AreFirst c.args.sought.most
    (filter (is_sought c.args.cols.now c.args.t c.args.sought) c.in-Some.walk) keys.items)
    (λ keys. ListsFirst c.args.store.now.rows c.args.table c.args.cols.now c.args.t c.args.sought
    (summed_up c.args.cols.now c.args.t keys.items))
    (λ keys are. first_sought c.args.store.now.rows c.args.table c.args.cols.now c.args.t
    c.args.sought c.in-Some.walk keys.items c.in-Some.ensures are) c.first_of.ensures
