use Rattle.std.proofs.Common.{sym, ap, refl, ◌∙◌}
use Rattle.fleet_core.specs.Links.{next_seq_at}
use Rattle.fleet_core.specs.Represents.{Collected}
use Rattle.fleet_core.proofs.Answered.{at_no_conn, at_no_memory}
use Rattle.fleet_core.proofs.Turned.{told_answers, told_closed, told_finds}
use Rattle.fleet_core.proofs.fleet.Fleet.tell.Goals as goal

pub returns-in_default : goal.returns-in_default
returns-in_default c = λ config opening past h.
    at_no_conn c.args.self.now config opening past _ h
    (told_closed c.args.self.now config opening past c.args.conn h
    (ap (λ (f : Collected). next_seq_at f.links c.args.conn) (sym c.self.view_is)
    ∙ sym c.in_default.ensures))

pub returns-in-Ok : goal.returns-in-Ok
returns-in-Ok c = λ config opening past h.
    told_answers c.args.self.now c.tell_open.new.self config opening past c.args.conn _
    (told_finds c.args.self.now config opening past c.args.conn _ h
    (ap (λ (f : Collected). next_seq_at f.links c.args.conn) (sym c.self.view_is)
    ∙ sym c.in-Some.ensures))
    refl (c.in-Ok.ensures config opening past h)

pub returns-in-Err : goal.returns-in-Err
returns-in-Err c = λ config opening past h.
    at_no_memory c.args.self.now c.tell_open.new.self config opening past _
    (told_finds c.args.self.now config opening past c.args.conn _ h
    (ap (λ (f : Collected). next_seq_at f.links c.args.conn) (sym c.self.view_is)
    ∙ sym c.in-Some.ensures))
    (c.in-Err.ensures config opening past h)
