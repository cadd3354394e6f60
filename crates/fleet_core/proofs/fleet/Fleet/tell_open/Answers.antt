use Rattle.std.proofs.Common.{sym, ap, ◌∙◌, map}
use Rattle.pushed_keys.specs.Pushes.{pushed_of}
use Rattle.fleet_core.specs.Telling.{sets_of}
use Rattle.fleet_core.proofs.HandingOver.{kept, settled}
use Rattle.fleet_core.proofs.Steps.{left_early}
use Rattle.fleet_core.proofs.Turned.{turn_taken}
use Rattle.fleet_core.proofs.fleet.Fleet.tell_open.Goals as goal

pub returns-in_err-flush : goal.returns-in_err-flush
returns-in_err-flush c = λ config opening past h.
    left_early _ _ _ c.from_residual.result c.from_residual.ensures.1
    (kept c.args.self.now c.flush.new.self config opening past c.flush.ensures.handed
    c.flush.ensures.links c.flush.ensures.connected c.flush.ensures.next_seq h)

pub returns-in_err-pushed : goal.returns-in_err-pushed
returns-in_err-pushed c = λ config opening past h.
    left_early _ _ _ c.from_residual-in_err-pushed.result c.from_residual-in_err-pushed.ensures.1
    (kept c.args.self.now c.flush.new.self config opening past c.flush.ensures.handed
    c.flush.ensures.links c.flush.ensures.connected c.flush.ensures.next_seq h)

pub returns-in_err-sets : goal.returns-in_err-sets
returns-in_err-sets c = λ config opening past h.
    left_early _ _ _ c.from_residual-in_err-sets.result c.from_residual-in_err-sets.ensures.1
    (kept c.args.self.now c.flush.new.self config opening past c.flush.ensures.handed
    c.flush.ensures.links c.flush.ensures.connected c.flush.ensures.next_seq h)

pub returns-in_err-out : goal.returns-in_err-out
returns-in_err-out c = λ config opening past h.
    left_early _ _ _ c.from_residual-in_err-out.result c.from_residual-in_err-out.ensures.1
    (kept c.args.self.now _ config opening past
    (rw (sym (ap (λ f. f.book) c.self-2.view_is), sym (ap (λ f. f.waiting) c.self-2.view_is))
    at c.flush.ensures.handed)
    (c.in_err-out.ensures.err ∙ ap (λ f. f.links) c.self-2.view_is ∙ c.flush.ensures.links)
    (ap (λ f. f.connected) c.self-2.view_is ∙ c.flush.ensures.connected)
    (ap (λ f. f.next_seq) c.self-2.view_is ∙ c.flush.ensures.next_seq) h)

pub returns : goal.returns
returns c = λ config opening past h.
    let view = c.self-2.view_is in
    let stands = settled c.args.self.now c.flush.new.self config opening past
    c.flush.ensures.handed c.flush.ensures.links c.flush.ensures.connected c.flush.ensures.next_seq
    h in
    rw c.from_vec.ensures
    (turn_taken c.flush.new.self _ config opening past c.args.conn c.in_ok-out.out.items
    c.as_slice-2.result.now _ c.moment-now.result stands c.in_ok-flush.ensures.ok
    (rw (sym c.flush.ensures.links) at c.requires.open)
    (rw (ap (λ f. f.links) view) at c.in_ok-out.ensures.ok)
    (c.as_slice-2.ensures ∙ c.in_ok-pushed.ensures ∙ ap (λ config. pushed_of config)
    (c.config.ensures.value ∙ ap (λ f. f.book.config) view))
    (ap (λ sets. map (λ set. map (λ key. key.now) set.items) sets) c.as_slice-3.ensures.value
    ∙ c.in_ok-sets.ensures ∙ ap (λ book. sets_of book c.as_slice.result.now)
    (ap (λ f. f.book) view) ∙ ap (λ pushed. sets_of c.flush.new.self.book pushed)
    (c.as_slice.ensures ∙ sym c.as_slice-2.ensures))
    (c.moment-now.ensures.value ∙ ap (λ f. f.book.moment) view)
    (ap (λ f. f.book) view)
    (ap (λ f. f.waiting) view ∙ c.in_ok-flush.ensures.ok)
    (ap (λ f. f.connected) view)
    (ap (λ f. f.next_seq) view))
