use Rattle.std.proofs.Common.{◌≡◌, ◌∙◌, ap, sym, false}
use Rattle.std.specs.Option.{option_copied}
use Rattle.std.specs.Ordering.{is_lt}
use Rattle.expiry_wheel.specs.Items.{first_item, first_item_above}
use Rattle.expiry_wheel.proofs.Firsts.{above_first, not_less}
use Rattle.expiry_wheel.proofs.Steps.{step-first, first-filter, and_true}
use Rattle.expiry_wheel.proofs.together.Together.above.Goals as goal

pub returns : goal.returns
returns g c =
    let cmp = g.T.Ord.cmp in
    let item = c.args.item.now in
    let i = c.self.inside in
    let not_above : is_lt (cmp item c.in_ok-first.first.now) ≡ false = ap is_lt (sym c.cmp.ensures)
    ∙ not_less c.cmp.result (sym c.if-eq.ensures) in
    step-first c.next.result c.range.result c.next.new.self c.next.ensures.steps
    ∙ ap first_item (c.range.ensures.between tt)
    ∙ first-filter _ (λ x. is_lt (cmp item x)) (λ x. and_true (is_lt (cmp item x))) i.others.keys
    ∙ above_first cmp item i.first c.in_ok-first.first.now i.others.keys (sym c.as_ref.ensures.value
    ∙ ap option_copied c.in_ok-first.was) not_above
    ∙ ap (first_item_above cmp item) c.self.view_is
