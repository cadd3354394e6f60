use Rattle.std.proofs.Common.{◌≡◌, ap, sym, ◌∙◌, subst}
use Rattle.std.specs.Prelude.{Some}
use Rattle.std.specs.Option.{option_copied}
use Rattle.expiry_wheel.specs.Entries.{IsInOrder, first_above, first_beyond}
use Rattle.expiry_wheel.proofs.Steps.{if_some_by, if_none_by}
use Rattle.expiry_wheel.proofs.Grouped.{Located, Vacant, located, vacant, sorted-entries_of}
use Rattle.expiry_wheel.proofs.Grouped.{above_there, above_beyond, above_absent}
use Rattle.expiry_wheel.proofs.Grouped.{first_beyond-entries_of}
use Rattle.expiry_wheel.proofs.ordered.OrderedDue.above_there.Goals as goal

pub returns-in_err-together-clause-beyond : goal.returns-in_err-together-clause-beyond
returns-in_err-together-clause-beyond g c =
    let cmp = g.T.Ord.cmp in
    let ms = c.self.inside.moments.entries in
    let gap : Vacant c.args.at ms =
    vacant cmp c.args.at ms c.self.invariant (sym c.get.ensures.value
    ∙ ap option_copied c.in_err-together.was) in
    if_none_by c.from_residual.result (λ _.
    subst (λ es. first_above cmp (Some (c.args.at, c.args.item.now)) es ≡ first_beyond c.args.at es)
    c.self.view_is
    (above_absent cmp c.args.at c.args.item.now ms gap ∙ sym
    (first_beyond-entries_of cmp c.args.at ms c.self.invariant)))

pub returns-in_err-together-clause-ordered : goal.returns-in_err-together-clause-ordered
returns-in_err-together-clause-ordered g c =
    subst (IsInOrder g.T.Ord.cmp) c.self.view_is
    (sorted-entries_of g.T.Ord.cmp c.self.inside.moments.entries c.self.invariant)

pub returns-clause-there : goal.returns-clause-there
returns-clause-there g c =
    let cmp = g.T.Ord.cmp in
    let ms = c.self.inside.moments.entries in
    let place : Located c.args.at c.in_ok-together.together.now ms =
    located cmp c.args.at c.in_ok-together.together.now ms c.self.invariant
    (sym c.get.ensures.value ∙ ap option_copied c.in_ok-together.was) in
    if_some_by c.above.result (λ next e.
    subst (λ es. first_above cmp (Some (c.args.at, c.args.item.now)) es ≡ Some (
      c.args.at,
      next.now,
    )) c.self.view_is
    (above_there cmp c.args.at c.args.item.now next.now c.in_ok-together.together.now ms place
    (sym c.above.ensures ∙ ap option_copied e)))

pub returns-clause-beyond : goal.returns-clause-beyond
returns-clause-beyond g c =
    let cmp = g.T.Ord.cmp in
    let ms = c.self.inside.moments.entries in
    let place : Located c.args.at c.in_ok-together.together.now ms =
    located cmp c.args.at c.in_ok-together.together.now ms c.self.invariant
    (sym c.get.ensures.value ∙ ap option_copied c.in_ok-together.was) in
    if_none_by c.above.result (λ e.
    subst (λ es. first_above cmp (Some (c.args.at, c.args.item.now)) es ≡ first_beyond c.args.at es)
    c.self.view_is
    (above_beyond cmp c.args.at c.args.item.now c.in_ok-together.together.now ms place
    (sym c.above.ensures ∙ ap option_copied e)
    ∙ sym (first_beyond-entries_of cmp c.args.at ms c.self.invariant)))

pub returns-clause-ordered : goal.returns-clause-ordered
returns-clause-ordered g c = subst (IsInOrder g.T.Ord.cmp) c.self.view_is
    (sorted-entries_of g.T.Ord.cmp c.self.inside.moments.entries c.self.invariant)
