use Rattle.std.proofs.Common.{arith, sym, ◌∙◌}
use Rattle.key_text.proofs.Groups.{elided_from-end, elided_from-next, elided_from-start}
use Rattle.key_text.proofs.ipv6.elision.Goals as goal

pub loop-at-init : goal.loop-at-init
loop-at-init c = elided_from-start c.args.text.now

pub loop-at-preserved : goal.loop-at-preserved
loop-at-preserved c = sym (elided_from-next c.loop-at.at c.args.text.now (omega arith)
    (sym c.are_colons.ensures ∙ c.if-are_colons.false)) ∙ c.loop-at.invariant

pub returns-clause-place : goal.returns-clause-place
returns-clause-place c =
    sym (elided_from-end c.loop-at.at c.args.text.now (omega arith)) ∙ c.loop-at.invariant
