use Rattle.std.proofs.Common.{rules, ℕ, List, refl, subst, ◌∙◌}
use Rattle.hub.proofs.Showing.{later_on}
use Rattle.admin_worker.proofs.Commanded.{change_may_post, looked}
use Rattle.admin_worker.specs.Commanding.{kept_of}
use Rattle.admin_worker.specs.Commands.{Replies}
use Rattle.admin_worker.proofs.worker.AdminWorker.look.Goals as goal

pub returns-clause-fits : goal.returns-clause-fits
returns-clause-fits g c =
    λ hub follows.
    change_may_post hub c.in-Some.look.lens.now.seen c.book.result.now
    c.in_ok-answered.answered.change
    (later_on hub c.args.self.now.lens.seen c.in-Some.look.lens.now.seen follows
    c.in-Some.ensures.some.2) c.book.ensures
    (c.in_ok-answered.ensures.fits c.book.result.now.config refl)

pub returns-clause-looks : goal.returns-clause-looks
returns-clause-looks g c =
    λ hub since seat whats line learned kept stays.
    let answered = c.in_ok-answered.answered in
    let says : Replies c.args.self.now.manner c.book.result.now
    (kept_of line) answered.change answered.text.items =
    subst (λ (bytes : List ℕ). Replies c.args.self.now.manner c.book.result.now bytes answered.change
    answered.text.items)
    (c.as_slice.ensures ∙ kept) c.in_ok-answered.ensures.replies in
    looked hub since seat c.args.self.now _ whats line c.book.result.now answered
    c.in-Some.look.lens.now.seen refl (search rules) c.in-Some.ensures.some.2 c.book.ensures
    says stays learned
