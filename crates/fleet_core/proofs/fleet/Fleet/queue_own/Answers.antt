use Rattle.std.proofs.Common.{sym, ap, refl, ◌∙◌, ◌+◌}
use Rattle.fleet_core.specs.Possible.{is_full}
use Rattle.fleet_core.specs.Steps.{what_at}
use Rattle.fleet_core.proofs.HandingOver.{kept, settled}
use Rattle.fleet_core.proofs.Steps.{fits_now, front_taken, left_early}
use Rattle.fleet_core.proofs.fleet.Fleet.queue_own.Goals as goal

pub returns-in_err-flush : goal.returns-in_err-flush
returns-in_err-flush c = λ config opening past h.
    left_early _ _ _ c.from_residual.result c.from_residual.ensures.1
    (kept c.args.self.now c.flush.new.self config opening past c.flush.ensures.handed
    c.flush.ensures.links c.flush.ensures.connected c.flush.ensures.next_seq h)

pub returns-in_err-facts : goal.returns-in_err-facts
returns-in_err-facts c = λ config opening past h.
    left_early _ _ _ c.from_residual-in_err-facts.result c.from_residual-in_err-facts.ensures.1
    (kept c.args.self.now c.flush.new.self config opening past c.flush.ensures.handed
    c.flush.ensures.links c.flush.ensures.connected c.flush.ensures.next_seq h)

pub returns : goal.returns
returns c = λ config opening past h.
    front_taken c.flush.new.self c.queue.new.self config opening past c.args.step.now
    (what_at c.args.step.now) c.new.result refl c.requires.own
    (settled c.args.self.now c.flush.new.self config opening past c.flush.ensures.handed
    c.flush.ensures.links c.flush.ensures.connected c.flush.ensures.next_seq h)
    c.in_ok-flush.ensures.ok
    (ap (λ n. is_full n 1) c.flush.ensures.next_seq ∙ c.requires.unspent)
    (sym (fits_now c.args.self.now config opening past c.args.step.now h) ∙ c.requires.fits)
    (c.new.ensures ∙ rw (c.in_ok-facts.ensures, ap (λ f. f.next_seq) c.self.view_is) refl)
    (rw (ap (λ f. f.book) c.self.view_is) at c.queue.ensures.handed)
    (c.queue.ensures.links ∙ ap (λ f. f.links) c.self.view_is)
    (c.queue.ensures.connected ∙ ap (λ f. f.connected) c.self.view_is)
    (c.queue.ensures.next_seq ∙ ap (λ f. f.next_seq + 1) c.self.view_is)
