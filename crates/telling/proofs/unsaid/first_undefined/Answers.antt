use Rattle.std.proofs.Common.{◌∙◌, ap}
use Rattle.telling.specs.Unsaid.{undefined_from}
use Rattle.telling.proofs.Steps.{none_defined_from}
use Rattle.telling.proofs.unsaid.first_undefined.Goals as goal

pub returns-else-place-pushed-clause-none : goal.returns-else-place-pushed-clause-none
returns-else-place-pushed-clause-none c = λ none.
    ap (undefined_from c.args.pushed.now) c.in_ok-place.was
    ∙ none_defined_from c.args.pushed.now c.in_ok-place.place c.if-place-pushed.false
