use Rattle.std.proofs.Common.{sym, ap, refl, ◌∙◌}
use Rattle.fleet_core.specs.Links.{next_seq_at}
use Rattle.fleet_core.specs.Represents.{Collected}
use Rattle.fleet_core.proofs.Answered.{at_no_conn, at_no_memory, at_spent}
use Rattle.fleet_core.proofs.Steps.{bytes_closed, bytes_ended, bytes_finds, bytes_ok, open_at}
use Rattle.fleet_core.proofs.fleet.Fleet.bytes.Goals as goal

pub returns-in_default : goal.returns-in_default
returns-in_default c = λ config opening past h.
    at_no_conn c.args.self.now config opening past _ h
    (bytes_closed c.args.self.now config opening past c.args.conn c.args.piece.now h
    (ap (λ (f : Collected). next_seq_at f.links c.args.conn) (sym c.self.view_is)
    ∙ sym c.in_default.ensures))

pub returns-then-is_spent : goal.returns-then-is_spent
returns-then-is_spent c = λ config opening past h.
    let at = open_at c.args.self.now config opening past c.args.conn c.in-Some.next_seq h
    (ap (λ (f : Collected). next_seq_at f.links c.args.conn) (sym c.self.view_is)
    ∙ sym c.in-Some.ensures) in
    at_spent c.args.self.now config opening past _ h
    (bytes_finds c.args.self.now config opening past c.args.conn c.args.piece.now c.in-Some.next_seq
    _ at (sym c.is_spent.ensures ∙ c.if-is_spent.true))

pub returns-in-None : goal.returns-in-None
returns-in-None c = λ config opening past h.
    let at = open_at c.args.self.now config opening past c.args.conn c.in-Some.next_seq h
    (ap (λ (f : Collected). next_seq_at f.links c.args.conn) (sym c.self.view_is)
    ∙ sym c.in-Some.ensures) in
    bytes_ok _ c.in-Ok.end c.args.self.now c.feed_open.new.self config opening past c.args.conn
    c.args.piece.now c.in-None.is refl
    (bytes_finds c.args.self.now config opening past c.args.conn c.args.piece.now c.in-Some.next_seq
    _ at (sym c.is_spent.ensures ∙ c.if-is_spent.false))
    (c.in-Ok.ensures config opening past h)

pub returns-in-Some-end : goal.returns-in-Some-end
returns-in-Some-end c = λ config opening past h.
    let at = open_at c.args.self.now config opening past c.args.conn c.in-Some.next_seq h
    (ap (λ (f : Collected). next_seq_at f.links c.args.conn) (sym c.self.view_is)
    ∙ sym c.in-Some.ensures) in
    bytes_ended c.in-Ok.out c.in-Ok.end _ c.args.self.now c.feed_open.new.self config opening past
    c.args.conn c.args.piece.now c.in-Some-end.is
    (bytes_finds c.args.self.now config opening past c.args.conn c.args.piece.now c.in-Some.next_seq
    _ at (sym c.is_spent.ensures ∙ c.if-is_spent.false))
    (c.in-Ok.ensures config opening past h)

pub returns-in-Err : goal.returns-in-Err
returns-in-Err c = λ config opening past h.
    let at = open_at c.args.self.now config opening past c.args.conn c.in-Some.next_seq h
    (ap (λ (f : Collected). next_seq_at f.links c.args.conn) (sym c.self.view_is)
    ∙ sym c.in-Some.ensures) in
    at_no_memory c.args.self.now c.feed_open.new.self config opening past _
    (bytes_finds c.args.self.now config opening past c.args.conn c.args.piece.now c.in-Some.next_seq
    _ at (sym c.is_spent.ensures ∙ c.if-is_spent.false))
    (c.in-Err.ensures config opening past h)
