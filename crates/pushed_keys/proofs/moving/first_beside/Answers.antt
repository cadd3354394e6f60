use Rattle.pushed_keys.specs.Packed.{lent}
use Rattle.pushed_keys.proofs.Order.{order_rest}
use Rattle.pushed_keys.proofs.moving.first_beside.Goals as goal

pub returns-in-Equal-clause-order : goal.returns-in-Equal-clause-order
returns-in-Equal-clause-order c = λ order.
    order_rest _ (lent c.in-Some.mark) _ c.in-Some.ensures order

pub returns-in-Greater-clause-order : goal.returns-in-Greater-clause-order
returns-in-Greater-clause-order c = λ order.
    order_rest _ (lent c.in-Some.mark) _ c.in-Some.ensures order
