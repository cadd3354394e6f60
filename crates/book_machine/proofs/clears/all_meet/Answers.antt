use Rattle.book_machine.proofs.Clearing.{all_of_walk}
use Rattle.book_machine.proofs.clears.all_meet.Goals as goal

pub returns-in-Some : goal.returns-in-Some
returns-in-Some c = λ yes.
    all_of_walk c.args.store.now.rows c.args.table c.args.cols.now c.args.conds.now c.args.t
    c.in-Some.walk
    (λ some key. c.a_key_answers_by_its_rows.ensures.conditions c.args.cols.now
    c.args.store.now.rows c.args.table key c.args.t some)
    c.in-Some.ensures (c.each_meets.ensures yes)
