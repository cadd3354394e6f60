use Rattle.config_text.proofs.Joined.{push_ended}
use Rattle.config_text.proofs.lines.append_push.Goals as goal

pub returns : goal.returns
returns c = rw (push_ended c.args.push.now) c.append_push_words.ensures
