use Rattle.session_core.proofs.FactLemmas.{facts_are, facts_few}
use Rattle.session_core.proofs.laws.facts_of_bytes.Goals as goal

pub returns-clause-kinds : goal.returns-clause-kinds
returns-clause-kinds c = facts_are

pub returns-clause-few : goal.returns-clause-few
returns-clause-few c = facts_few
