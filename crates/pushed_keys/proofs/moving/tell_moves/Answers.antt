use Rattle.std.proofs.Common.{[], subst, ap, ◌∙◌}
use Rattle.std.proofs.lemmas.Result.{IfOk-weaker}
use Rattle.pushed_keys.specs.Moves.{AreInOrder, marked, moved_stands}
use Rattle.pushed_keys.specs.Packed.{marks_of}
use Rattle.pushed_keys.specs.Passed.{ArePassed, IsDone}
use Rattle.pushed_keys.specs.Stands.{shown}
use Rattle.pushed_keys.specs.Turns.{last_after}
use Rattle.pushed_keys.specs.declared.done.Done.{Done}
use Rattle.pushed_keys.proofs.Through.{all_left, left_done, left_first, left_passed}
use Rattle.pushed_keys.proofs.moving.tell_moves.Goals as goal

abbrev start : Done
start = record { changes = []; kept = [] }

pub loop-standing-init : goal.loop-standing-init
loop-standing-init c = λ order.
    let passed : ArePassed c.args.pushed.now c.args.turn c.args.moves.now
    (marks_of c.args.marks) (marks_of c.in_ok-marks.marks) start c.pass_parts.new.done =
    subst (λ (old : Done). ArePassed c.args.pushed.now c.args.turn c.args.moves.now
    (marks_of c.args.marks) (marks_of c.in_ok-marks.marks) old c.pass_parts.new.done)
    c.new-done.ensures c.in_ok-marks.ensures in
    left_passed c.args.pushed.now c.args.turn c.args.moves.now (marks_of c.args.marks)
    (marks_of c.in_ok-marks.marks) start c.pass_parts.new.done c.args.moves.now
    (marks_of c.args.marks) start passed
    (all_left c.args.pushed.now c.args.turn c.args.moves.now (marks_of c.args.marks) start order)

pub loop-standing-preserved : goal.loop-standing-preserved
loop-standing-preserved c = λ order.
    left_passed c.args.pushed.now c.args.turn c.in-Some.behind.moves.now
    (marks_of c.in-Some.behind.marks) (marks_of c.in_ok-marks-2.marks) c.tell.new.self
    c.pass_parts-in-Some.new.done c.args.moves.now (marks_of c.args.marks) start
    c.in_ok-marks-2.ensures
    (left_first c.args.pushed.now c.args.turn c.loop-standing.left.moves.now
    c.in-Some.behind.moves.now (marks_of c.loop-standing.left.marks)
    (marks_of c.in-Some.behind.marks) c.loop-standing.done c.tell.new.self
    (shown c.in-Some.standing) c.args.moves.now (marks_of c.args.marks) start
    c.in-Some.ensures.stands c.in-Some.ensures.order c.in_ok-tell.ensures
    (c.loop-standing.invariant order))

all_done : (c : goal.After-finish) → AreInOrder (marked (marks_of c.args.marks))
    → IsDone c.args.pushed.now c.args.turn start
    (moved_stands c.args.moves.now (marks_of c.args.marks)) c.loop-standing.done
all_done c order =
    left_done c.args.pushed.now c.args.turn c.loop-standing.left.moves.now
    (marks_of c.loop-standing.left.marks) c.loop-standing.done c.args.moves.now
    (marks_of c.args.marks) start c.in_default.ensures.stands (c.loop-standing.invariant order)

pub returns-clause-unsaid : goal.returns-clause-unsaid
returns-clause-unsaid c = IfOk-weaker c.finish.result _ _ (λ tables h order.
    h ∙ (λ i. record { last = c.args.last; changes = (all_done c order).said i }))
    c.finish.ensures.unsaid

pub returns-clause-told : goal.returns-clause-told
returns-clause-told c = IfOk-weaker c.finish.result _ _ (λ tables h order.
    let last = ap (last_after c.args.last) (all_done c order).said in
    h ∙ (λ i. record { last = last i; marks = (all_done c order).kept i })) c.finish.ensures.told
