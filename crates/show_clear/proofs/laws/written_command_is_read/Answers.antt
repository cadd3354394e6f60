use Rattle.show_clear.proofs.CommandBack.{command_back}
use Rattle.show_clear.proofs.laws.written_command_is_read.Goals as goal

pub returns : goal.returns
returns c = command_back
