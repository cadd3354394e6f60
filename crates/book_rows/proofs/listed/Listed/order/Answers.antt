use Rattle.std.proofs.Common.{◌<◌, sym, subst₂}
use Rattle.book_rows.proofs.Heads.{heads_order, heads_turned}
use Rattle.book_rows.proofs.listed.Listed.order.Goals as goal

pub returns-then-self-other : goal.returns-then-self-other
returns-then-self-other c = rw (← c.self.view_is, ← c.other.view_is)
    (sym (heads_order c.self.inside.key.now c.other.inside.key.now c.self.invariant.small
    c.other.invariant.small (subst₂ (λ m n. m < n) c.self.invariant.is c.other.invariant.is
    c.if-self-other.true)))

pub returns-then-other-self : goal.returns-then-other-self
returns-then-other-self c = rw (← c.self.view_is, ← c.other.view_is)
    (sym (heads_turned c.self.inside.key.now c.other.inside.key.now c.self.invariant.small
    c.other.invariant.small (subst₂ (λ m n. m < n) c.other.invariant.is c.self.invariant.is
    c.if-other-self.true)))
