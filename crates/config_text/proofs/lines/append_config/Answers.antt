use Rattle.config_text.proofs.Joined.{whole}
use Rattle.config_text.proofs.lines.append_config.Goals as goal

pub returns : goal.returns
returns c = rw (whole c.args.config.now) c.append_parts.ensures
