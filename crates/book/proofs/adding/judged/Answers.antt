use Rattle.std.proofs.Common.{◌≤◌, [], length, arith, ap, sym, subst}
use Rattle.fleet_model.specs.Answers.{keys_of}
use Rattle.fleet_model.specs.Keys.{Rows}
use Rattle.fleet_model.specs.State.{State}
use Rattle.standing_filters.specs.Watched.{Watched, unheld}
use Rattle.book.specs.Ahead.{AreAhead}
use Rattle.book.specs.Verdicts.{IsJudged}
use Rattle.book_rows.specs.Store.{IsEachKeyOf}
use Rattle.book.proofs.Ahead.{begun, none_ahead, walk_few}
use Rattle.book.proofs.adding.judged.Goals as goal

pub judge_each-requires-clause-ahead : goal.judge_each-requires-clause-ahead
judge_each-requires-clause-ahead c =
    subst (λ (w : Watched). AreAhead c.args.machine.now c.args.filter.now.table c.in-Some.walk w)
    (sym c.in_ok-adding.ensures)
    (begun c.adding_begins.ensures c.args.machine.now c.args.filter.now c.in-Some.walk
    (subst (λ (rows : Rows). IsEachKeyOf rows c.args.filter.now.table c.in-Some.walk)
    (ap (λ (s : State). s.rows) c.machine.view_is) c.in-Some.ensures))

pub returns-in-None-clause-judged : goal.returns-in-None-clause-judged
returns-in-None-clause-judged c =
    subst (IsJudged c.args.machine.now) (sym c.in_ok-adding.ensures)
    (none_ahead c.args.machine.now c.args.filter.now.table (unheld c.args.filter.now)
    (begun c.adding_begins.ensures c.args.machine.now c.args.filter.now []
    (subst (λ (rows : Rows). IsEachKeyOf rows c.args.filter.now.table [])
    (ap (λ (s : State). s.rows) c.machine.view_is) c.in-None.ensures)))

pub returns-in_err-judge_each-in-Some-clause-few : goal.returns-in_err-judge_each-in-Some-clause-few
returns-in_err-judge_each-in-Some-clause-few c =
    let few : length c.in-Some.walk ≤ length (keys_of c.args.machine.now c.args.filter.now.table) =
    walk_few c.args.machine.now c.args.filter.now.table c.in-Some.walk c.requires.sound
    (subst (λ (rows : Rows). IsEachKeyOf rows c.args.filter.now.table c.in-Some.walk)
    (ap (λ (s : State). s.rows) c.machine.view_is) c.in-Some.ensures) in
    omega (arith, few, c.judge_each.ensures.few)

pub returns-in_ok-judge_each-in-Some-clause-few : goal.returns-in_ok-judge_each-in-Some-clause-few
returns-in_ok-judge_each-in-Some-clause-few c =
    let few : length c.in-Some.walk ≤ length (keys_of c.args.machine.now c.args.filter.now.table) =
    walk_few c.args.machine.now c.args.filter.now.table c.in-Some.walk c.requires.sound
    (subst (λ (rows : Rows). IsEachKeyOf rows c.args.filter.now.table c.in-Some.walk)
    (ap (λ (s : State). s.rows) c.machine.view_is) c.in-Some.ensures) in
    omega (arith, few, c.judge_each.ensures.few)
