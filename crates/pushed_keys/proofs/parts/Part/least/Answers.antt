use Rattle.std.proofs.Common.{List, subst}
use Rattle.std.specs.List.{AllByRecursion}
use Rattle.pushed_keys.specs.Packed.{IsFrom}
use Rattle.pushed_keys.specs.declared.told.Mark.{Mark}
use Rattle.pushed_keys.proofs.parts.Part.least.Goals as goal

pub returns : goal.returns
returns c =
    subst (λ (marks : List Mark). AllByRecursion (λ mark. IsFrom c.self.inside.least mark) marks)
    c.self.view_is c.self.invariant.late
