use Rattle.std.proofs.Common.{sym, ap, ◌∙◌}
use Rattle.fleet_core.specs.Possible.{is_full}
use Rattle.fleet_core.proofs.Answered.{at_no_memory, at_spent}
use Rattle.fleet_core.proofs.Steps.{front_answers, front_finds}
use Rattle.fleet_core.proofs.fleet.Fleet.happen.Goals as goal

pub queue_own-requires-clause-unspent : goal.queue_own-requires-clause-unspent
queue_own-requires-clause-unspent c = sym (ap (λ f. is_full f.next_seq 1) c.self.view_is)
    ∙ sym c.is_spent.ensures ∙ c.if-is_spent.false

pub returns-then-is_spent : goal.returns-then-is_spent
returns-then-is_spent c = λ config opening past h.
    at_spent c.args.self.now config opening past c.args.step.now h
    (front_finds c.args.self.now config opening past c.args.step.now _ c.requires.own h
    (sym (ap (λ f. is_full f.next_seq 1) c.self.view_is) ∙ sym c.is_spent.ensures
    ∙ c.if-is_spent.true))

pub returns-in-Ok : goal.returns-in-Ok
returns-in-Ok c = λ config opening past h.
    front_answers c.args.self.now c.queue_own.new.self config opening past c.args.step.now
    c.silent.result c.requires.own h
    (sym (ap (λ f. is_full f.next_seq 1) c.self.view_is) ∙ sym c.is_spent.ensures
    ∙ c.if-is_spent.false)
    c.silent.ensures (c.in-Ok.ensures config opening past h)

pub returns-in-Err : goal.returns-in-Err
returns-in-Err c = λ config opening past h.
    at_no_memory c.args.self.now c.queue_own.new.self config opening past c.args.step.now
    (front_finds c.args.self.now config opening past c.args.step.now _ c.requires.own h
    (sym (ap (λ f. is_full f.next_seq 1) c.self.view_is) ∙ sym c.is_spent.ensures
    ∙ c.if-is_spent.false))
    (c.in-Err.ensures config opening past h)
