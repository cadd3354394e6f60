use Rattle.session_core.proofs.FitLemmas.{talk_fits}
use Rattle.session_core.proofs.laws.facts_fit.Goals as goal

pub returns : goal.returns
returns c = λ config seated bytes. talk_fits config seated bytes
