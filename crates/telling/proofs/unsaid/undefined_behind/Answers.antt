use Rattle.std.proofs.Common.{◌+◌, sym}
use Rattle.telling.proofs.Steps.{none_defined_from}
use Rattle.telling.proofs.unsaid.undefined_behind.Goals as goal

pub returns-else-place-many : goal.returns-else-place-many
returns-else-place-many c =
    sym (none_defined_from c.args.pushed.now (c.args.place + 1) c.if-place-many.false)
