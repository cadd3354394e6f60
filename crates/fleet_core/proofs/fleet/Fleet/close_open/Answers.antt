use Rattle.std.proofs.Common.{sym, ap, refl, ◌∙◌}
use Rattle.fleet_core.proofs.HandingOver.{kept, settled}
use Rattle.fleet_core.proofs.Steps.{left_early, lost_taken}
use Rattle.fleet_core.proofs.fleet.Fleet.close_open.Goals as goal

pub returns-in_err-flush : goal.returns-in_err-flush
returns-in_err-flush c = λ config opening past h.
    left_early _ _ _ c.from_residual.result c.from_residual.ensures.1
    (kept c.args.self.now c.flush.new.self config opening past c.flush.ensures.handed
    c.flush.ensures.links c.flush.ensures.connected c.flush.ensures.next_seq h)

pub returns : goal.returns
returns c = λ config opening past h.
    lost_taken c.flush.new.self c.queue.new.self config opening past c.args.conn c.args.next_seq _
    c.at_seat-events.result
    (settled c.args.self.now c.flush.new.self config opening past c.flush.ensures.handed
    c.flush.ensures.links c.flush.ensures.connected c.flush.ensures.next_seq h)
    c.in_ok-flush.ensures.ok
    (rw (sym c.flush.ensures.links) at c.requires.open)
    (rw (ap (λ f. f.links) c.self.view_is) at c.close.ensures)
    (c.at_seat-events.ensures ∙ rw c.new-none.ensures refl)
    (rw (ap (λ f. f.book) c.self.view_is) at c.queue.ensures.handed)
    c.queue.ensures.links
    (c.queue.ensures.connected ∙ ap (λ f. f.connected) c.self.view_is)
    (c.queue.ensures.next_seq ∙ ap (λ f. f.next_seq) c.self.view_is)
