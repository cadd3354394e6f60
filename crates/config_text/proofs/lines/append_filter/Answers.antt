use Rattle.config_text.proofs.Joined.{filter_ended}
use Rattle.config_text.proofs.lines.append_filter.Goals as goal

pub returns : goal.returns
returns c = rw (filter_ended c.args.tables.now c.args.filter.now)
    (rw c.table_name.ensures at c.append_filter_words.ensures)
