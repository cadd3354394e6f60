use Rattle.fleet_sums.proofs.Histories.{totals_are_sums_lem}
use Rattle.fleet_sums.proofs.law.totals_are_sums.Goals as goal

pub returns : goal.returns
returns c = totals_are_sums_lem
