use Rattle.std.proofs.Common.{sym, ap, refl, ◌∙◌, ◌+◌}
use Rattle.fleet_core.proofs.HandingOver.{kept, settled}
use Rattle.fleet_core.proofs.Steps.{connect_taken, left_early}
use Rattle.fleet_core.proofs.fleet.Fleet.open_next.Goals as goal

pub returns-in_err-flush : goal.returns-in_err-flush
returns-in_err-flush c = λ config opening past h.
    left_early _ _ _ c.from_residual.result c.from_residual.ensures.1
    (kept c.args.self.now c.flush.new.self config opening past c.flush.ensures.handed
    c.flush.ensures.links c.flush.ensures.connected c.flush.ensures.next_seq h)

pub returns-in_err-facts : goal.returns-in_err-facts
returns-in_err-facts c = λ config opening past h.
    left_early _ _ _ c.from_residual-in_err-facts.result c.from_residual-in_err-facts.ensures.1
    (kept c.args.self.now c.flush.new.self config opening past c.flush.ensures.handed
    c.flush.ensures.links c.flush.ensures.connected c.flush.ensures.next_seq h)

pub returns-in_err-open : goal.returns-in_err-open
returns-in_err-open c = λ config opening past h.
    left_early _ _ _ c.from_residual-in_err-open.result c.from_residual-in_err-open.ensures.1
    (kept c.args.self.now _ config opening past
    (rw (sym (ap (λ f. f.book) c.self.view_is), sym (ap (λ f. f.waiting) c.self.view_is))
    at c.flush.ensures.handed)
    (c.in_err-open.ensures.err ∙ ap (λ f. f.links) c.self.view_is ∙ c.flush.ensures.links)
    (ap (λ f. f.connected) c.self.view_is ∙ c.flush.ensures.connected)
    (ap (λ f. f.next_seq) c.self.view_is ∙ c.flush.ensures.next_seq) h)

pub returns : goal.returns
returns c = λ config opening past h.
    let stands = settled c.args.self.now c.flush.new.self config opening past
    c.flush.ensures.handed c.flush.ensures.links c.flush.ensures.connected
    c.flush.ensures.next_seq h in (
      ap (λ f. f.connected + 1) c.self.view_is ∙ ap (λ n. n + 1) stands.connected,
      connect_taken c.flush.new.self c.queue.new.self config opening past
          c.has_free_seat-seated.result c.new-connection.result _ c.new.result c.in_ok-facts.facts
          stands c.in_ok-flush.ensures.ok
          (rw (sym c.flush.ensures.connected) at c.requires.few)
          (c.has_free_seat-seated.ensures ∙ rw (ap (λ f. f.book) c.self.view_is) refl)
          c.new-connection.ensures.stands c.new-connection.ensures.seated
          c.new-connection.ensures.next_seq
          c.new-connection.ensures.told
          (rw (ap (λ f. f.links) c.self.view_is, ap (λ f. f.connected) c.self.view_is)
          at c.in_ok-open.ensures.ok)
          c.in_ok-facts.ensures
          (c.new.ensures ∙ rw (ap (λ f. f.connected) c.self.view_is) refl)
          (rw (ap (λ f. f.book) c.self.view_is) at c.queue.ensures.handed)
          c.queue.ensures.links
          (c.queue.ensures.connected ∙ ap (λ f. f.connected + 1) c.self.view_is)
          (c.queue.ensures.next_seq ∙ ap (λ f. f.next_seq) c.self.view_is),
    )
