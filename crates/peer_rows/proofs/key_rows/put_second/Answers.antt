use Rattle.std.proofs.Common.{rules}
use Rattle.peer_rows.proofs.key_rows.put_second.Goals as goal

pub returns-clause-ok : goal.returns-clause-ok
returns-clause-ok c = search rules
