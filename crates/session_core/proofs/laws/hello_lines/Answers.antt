use Rattle.session_core.proofs.HelloLineLemmas.{hello_decides, hello_decided}
use Rattle.session_core.proofs.laws.hello_lines.Goals as goal

pub returns-clause-decides : goal.returns-clause-decides
returns-clause-decides c = hello_decides

pub returns-clause-only : goal.returns-clause-only
returns-clause-only c = hello_decided
