use Rattle.std.proofs.Common.{◌≡◌, ◌-◌}
use Rattle.show_clear.specs.Parse.{conds_of}
use Rattle.show_clear.proofs.CondLemmas.{onto}
use Rattle.show_clear.proofs.conditions.read_conds.Given as goal

-- what is read and what is left to read are all
abbrev pub invariant-loop : goal.invariant-loop
invariant-loop l = onto l.conds.items (conds_of l.shape.cols (4 - l.counter) l.words)
    ≡ conds_of l.fn.shape.cols 4 l.fn.words
