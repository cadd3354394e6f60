use Rattle.std.proofs.Common.{refl}
use Rattle.peers_msg.specs.Message.{reading_of, reading_within}
use Rattle.peers_msg.proofs.feed.Feed.new.Goals as goal

pub returns : goal.returns
unfolding reading_of reading_within
returns c = rw c.new.ensures.items refl
