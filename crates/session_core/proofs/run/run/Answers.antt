use Rattle.std.proofs.Common.{◌+◌, ◌≤◌, ap, drop, length, arith, ◌∙◌}
use Rattle.peers_msg.specs.Lent.{as_message}
use Rattle.session_core.specs.Run.{GoesOn, run}
use Rattle.session_core.specs.Tracked.{Tracked, step_of}
use Rattle.session_core.specs.Undo.{undone}
use Rattle.session_core.proofs.PutLemmas.{goes_on_behind}
use Rattle.session_core.proofs.RunLemmas.{run_next, run_nil, got_none, goes_on_none}
use Rattle.session_core.proofs.RunLemmas.{heard_nothing, heard_confirm}
use Rattle.session_core.proofs.RunLemmas.{heard_partial, heard_end, ran_all}
use Rattle.session_core.proofs.run.run.Goals as goal
use Rattle.session_core.proofs.run.run.Goals.{in-Nothing, in-Confirm+in_ok-write_message-in-Confirm}
use Rattle.session_core.proofs.run.run.Goals.{in-Partial+in_ok-write_message-in-Partial}
use Rattle.session_core.proofs.run.run.Goals.{else-loop-at-test, then-loop-at-test+in_default}

pub returns-in-End-clause-ran : goal.returns-in-End-clause-ran
returns-in-End-clause-ran c =
    let message = as_message c.in-Some.message in
    let begins = run_next c.args.tables.now c.args.peer c.loop-at.track
    c.args.given.now.messages c.loop-at.at message c.in-Some.ensures in
    let left = rw begins at c.loop-at.invariant.1 in
    let next = λ (t : Tracked). run c.args.tables.now c.args.peer t
    (drop (c.loop-at.at + 1) c.args.given.now.messages) in
    let step = step_of c.args.tables.now c.args.peer c.loop-at.track message in
    let ends = rw c.in-End.is at c.in_ok-step.ensures.step in
    ran_all _ _ _ _ _ _ _ (heard_end next c.in-End.cause step ends left)

pub loop-at-init : goal.loop-at-init
loop-at-init c =
    let same = c.plan_now-plan.ensures.same in
    let first = rw same at c.in_ok-at.ensures.goes_on in (
      c.in_ok-at.ensures.planned,
      goes_on_behind first (goes_on_none c.args.facts.now c.args.replies.now.items
          (run c.args.tables.now c.args.peer c.args.track.now c.args.given.now.messages)),
      c.put_updates.ensures.undo
          ∙ ap (λ (t : Tracked). undone c.args.changes.now.items t.entries) same,
    )

pub loop-at-preserved : goal.loop-at-preserved
loop-at-preserved c =
    let message = as_message c.in-Some.message in
    let begins = run_next c.args.tables.now c.args.peer c.loop-at.track
    c.args.given.now.messages c.loop-at.at message c.in-Some.ensures in
    let left = rw begins at c.loop-at.invariant.1 in
    let next = λ (t : Tracked). run c.args.tables.now c.args.peer t
    (drop (c.loop-at.at + 1) c.args.given.now.messages) in
    let step = step_of c.args.tables.now c.args.peer c.loop-at.track message in
    let stepped : GoesOn c.args.facts.now c.step.new.facts c.args.replies.now.items
    c.match-branch-3.replies.items (next c.step.new.self)
    (run c.args.tables.now c.args.peer c.args.track.now c.args.given.now.messages) =
    elim c.match-branch-3.branch [
      | in-Nothing w ↦
          let is = rw w.in-Nothing.is at c.in_ok-step.ensures.step in
          rw (w.replies-is) (heard_nothing next step is left)
      | in-Confirm+in_ok-write_message-in-Confirm w ↦
          let is = rw w.in-Confirm.is at c.in_ok-step.ensures.step in
          rw (w.replies-is, w.in_ok-write_message-in-Confirm.ensures.ok)
          (heard_confirm next step is left)
      | in-Partial+in_ok-write_message-in-Partial w ↦
          let is = rw w.in-Partial.is at c.in_ok-step.ensures.step in
          rw (w.replies-is, w.in_ok-write_message-in-Partial.ensures.ok)
          (heard_partial next step is left)
    ] in (
      c.in_ok-at-2.ensures.planned,
      goes_on_behind c.in_ok-at-2.ensures.goes_on stepped,
      c.put_updates-in-loop-at.ensures.undo ∙ c.in_ok-step.ensures.undo
          ∙ c.loop-at.invariant.2,
    )

pub returns-clause-ran : goal.returns-clause-ran
returns-clause-ran c =
    let done : length c.args.given.now.messages ≤ c.loop-at.at = elim c.loop-at-test.branch [
      | else-loop-at-test w ↦ omega (arith, w.loop-at-test, c.len-count.ensures)
      | then-loop-at-test+in_default w ↦
          got_none c.args.given.now.messages c.loop-at.at w.in_default.ensures
    ] in
    let left = rw (run_nil c.args.tables.now c.args.peer c.loop-at.track c.args.given.now.messages
    c.loop-at.at done) at c.loop-at.invariant.1 in
    rw c.keep.ensures (ran_all _ _ _ _ _ _ _ left)
