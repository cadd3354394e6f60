use Rattle.std.proofs.Common.{rules}
use Rattle.peers_msg.specs.Spelling.{message_spelling}
use Rattle.telling.proofs.draft.Draft.update.Goals as goal

pub returns : goal.returns
unfolding message_spelling
returns c = search rules
