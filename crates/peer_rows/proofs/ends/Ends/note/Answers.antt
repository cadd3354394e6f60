use Rattle.std.proofs.Common.{◌≡◌, ◌<◌, true, ap, sym, ◌∙◌}
use Rattle.std.proofs.Common.{OnOk, Result, Ok, Err, not}
use Rattle.std.proofs.lemmas.Bool.{le-leb, ltb-true}
use Rattle.std.specs.Prelude.{is_ok}
use Rattle.place_plans.proofs.Laws.{due_cancelled, due_planned, planned_here}
use Rattle.place_plans.specs.Plans.{is_due, plan_at, planned}
use Rattle.peer_rows.proofs.InTime.{planned_by}
use Rattle.peer_rows.proofs.ends.Ends.note.Goals as goal

pub returns-in_default-clause-due : goal.returns-in_default-clause-due
returns-in_default-clause-due c = λ t by behind.
    rw c.cancel.ensures (due_cancelled t c.args.self.now.plans c.args.at)

pub returns-then-is_by-clause-own : goal.returns-then-is_by-clause-own
returns-then-is_by-clause-own c = λ rows least.
    planned_by c.args.self.now.missed rows c.in-Some.end
    (plan_at c.args.self.now.plans c.args.at) (rw c.in-Some.is at least)
    (ap (is_due c.in-Some.end) (sym c.at.ensures) ∙ sym c.is_by.ensures ∙ c.if-is_by.true)

told : {A B P : Type 0} (r : Result A B) → is_ok r ≡ true → OnOk r P → P
told (Ok x) e p = p
told (Err x) e p = cc

now : (c : goal.Else-is_err) → c.plan.new.self
    ≡ planned c.args.self.now.plans c.args.at c.moment_for.result
now c = told c.plan.result (c.is_err.ensures.negation ∙ ap not c.if-is_err.false) c.plan.ensures.ok

pub returns-else-is_err-clause-own : goal.returns-else-is_err-clause-own
returns-else-is_err-clause-own c = λ rows least.
    planned_by c.args.self.now.missed rows c.in-Some.end (plan_at c.plan.new.self c.args.at)
    (rw c.in-Some.is at least)
    (ap (is_due c.in-Some.end) (ap (λ ps. plan_at ps c.args.at) (now c)
    ∙ planned_here c.args.self.now.plans c.args.at c.moment_for.result)
    ∙ le-leb c.moment_for.result c.in-Some.end c.moment_for.ensures.by)

pub returns-else-is_err-clause-due : goal.returns-else-is_err-clause-due
returns-else-is_err-clause-due c = λ t by behind.
    let later : t < c.in-Some.end = ltb-true t c.in-Some.end (rw c.in-Some.is at behind) in
    rw (now c) (due_planned t c.args.self.now.plans c.args.at c.moment_for.result
    (c.moment_for.ensures.behind t by later))
