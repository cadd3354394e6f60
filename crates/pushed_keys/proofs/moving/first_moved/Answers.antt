use Rattle.std.proofs.Common.{◌∙◌, ◌∷◌, ap, sym}
use Rattle.pushed_keys.specs.Moves.{moved_stands}
use Rattle.pushed_keys.specs.Packed.{lent, marks_of}
use Rattle.pushed_keys.proofs.Firsts.{none_moved_first, unmoved_first}
use Rattle.pushed_keys.proofs.Order.{order_rest}
use Rattle.pushed_keys.proofs.moving.first_moved.Goals as goal

pub returns-in_err-mark-clause-stands : goal.returns-in_err-mark-clause-stands
returns-in_err-mark-clause-stands c =
    rw c.from_residual.ensures (none_moved_first c.args.moves.now _ c.in_default.len_below
    c.in_err-mark.ensures)

pub returns-in_default-clause-stands : goal.returns-in_default-clause-stands
returns-in_default-clause-stands c =
    unmoved_first c.args.moves.now _ _ _ c.in_default.len_below c.in_ok-mark.ensures
    ∙ ap (λ stand. stand ∷ moved_stands c.args.moves.now (marks_of c.in_ok-mark.rest))
    (sym c.standing_on.ensures)

pub returns-in_default-clause-order : goal.returns-in_default-clause-order
returns-in_default-clause-order c = λ order.
    order_rest _ (lent c.in_ok-mark.mark) _ c.in_ok-mark.ensures order
