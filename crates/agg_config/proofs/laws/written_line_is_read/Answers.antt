use Rattle.agg_config.proofs.LinesBack.{line_back}
use Rattle.agg_config.proofs.laws.written_line_is_read.Goals as goal

pub returns : goal.returns
returns c = line_back
