use Rattle.config_text.proofs.Joined.{stored}
use Rattle.config_text.proofs.tables.append_stored.Goals as goal

pub returns : goal.returns
returns c = rw (stored c.args.first c.args.rest.now) c.append_stored_words.ensures
