use Rattle.std.proofs.Common.{sym, ap, ◌∙◌}
use Rattle.fleet_core.proofs.HandingOver.{kept, settled}
use Rattle.fleet_core.proofs.Steps.{bytes_taken, left_early}
use Rattle.fleet_core.proofs.fleet.Fleet.feed_open.Goals as goal

pub returns-in_err-flush : goal.returns-in_err-flush
returns-in_err-flush c = λ config opening past h.
    left_early _ _ _ c.from_residual.result c.from_residual.ensures.1
    (kept c.args.self.now c.flush.new.self config opening past c.flush.ensures.handed
    c.flush.ensures.links c.flush.ensures.connected c.flush.ensures.next_seq h)

pub returns-in_err-facts : goal.returns-in_err-facts
returns-in_err-facts c = λ config opening past h.
    left_early _ _ _ c.from_residual-in_err-facts.result c.from_residual-in_err-facts.ensures.1
    (kept c.args.self.now _ config opening past
    (rw (sym (ap (λ f. f.book) c.self-2.view_is), sym (ap (λ f. f.waiting) c.self-2.view_is))
    at c.flush.ensures.handed)
    (c.in_err-facts.ensures.err ∙ ap (λ f. f.links) c.self-2.view_is ∙ c.flush.ensures.links)
    (ap (λ f. f.connected) c.self-2.view_is ∙ c.flush.ensures.connected)
    (ap (λ f. f.next_seq) c.self-2.view_is ∙ c.flush.ensures.next_seq) h)

pub returns : goal.returns
returns c = λ config opening past h.
    bytes_taken c.flush.new.self c.queue.new.self config opening past c.args.conn c.args.piece.now
    c.args.next_seq c.in_ok-facts.field-0 c.feed.new.connections.entries _
    c.at_seat-events.result
    (settled c.args.self.now c.flush.new.self config opening past c.flush.ensures.handed
    c.flush.ensures.links c.flush.ensures.connected c.flush.ensures.next_seq h)
    c.in_ok-flush.ensures.ok
    (rw (sym c.flush.ensures.links) at c.requires.open)
    c.requires.unspent
    (rw (
      c.config.ensures.value,
      ap (λ f. f.links) c.self-2.view_is,
      ap (λ f. f.book) c.self-2.view_is,
    ) at c.in_ok-facts.ensures.ok)
    (rw c.is_some-ended.ensures at c.close_if.ensures)
    (rw c.is_some-ended.ensures at c.at_seat-events.ensures)
    (rw (ap (λ f. f.book) c.self-2.view_is) at c.queue.ensures.handed)
    c.queue.ensures.links
    (c.queue.ensures.connected ∙ ap (λ f. f.connected) c.self-2.view_is)
    (c.queue.ensures.next_seq ∙ ap (λ f. f.next_seq) c.self-2.view_is)
