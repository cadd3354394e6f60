use Rattle.config_text.proofs.Joined.{table_ended}
use Rattle.config_text.proofs.lines.append_table.Goals as goal

pub returns : goal.returns
returns c = rw (table_ended c.args.table.now) c.append_table_words.ensures
