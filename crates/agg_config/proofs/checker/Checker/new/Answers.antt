use Rattle.agg_config.proofs.Finished.{read_none}
use Rattle.agg_config.proofs.checker.Checker.new.Goals as goal

pub returns-clause-none : goal.returns-clause-none
returns-clause-none c = read_none _ c.in_ok-opening.ensures
