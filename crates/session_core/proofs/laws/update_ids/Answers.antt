use Rattle.session_core.proofs.CountedLemmas.{last_id_counted}
use Rattle.session_core.proofs.laws.update_ids.Goals as goal

pub returns : goal.returns
returns c = last_id_counted
