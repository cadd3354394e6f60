use Rattle.replay.proofs.Known.{cut_short, unflushed, whole}
use Rattle.replay.proofs.streams.replay_from.Goals as goal

pub returns-in_default : goal.returns-in_default
returns-in_default g c =
    cut_short (g.R.Read.remaining c.args.script.now) (g.W.Write.contents c.args.out.now)
    (g.W.Write.contents c.replay_lines.new.out) c.in_default.ensures.cut

pub returns-in-Ok-flush : goal.returns-in-Ok-flush
returns-in-Ok-flush g c =
    whole (g.R.Read.remaining c.args.script.now) (g.W.Write.contents c.args.out.now)
    (g.W.Write.contents c.replay_lines.new.out) (g.W.Write.contents c.flush.new.self)
    c.in-Ok.ending c.in-Ok.ensures.whole c.flush.ensures.bytes

pub returns-in-Err : goal.returns-in-Err
returns-in-Err g c =
    unflushed (g.R.Read.remaining c.args.script.now) (g.W.Write.contents c.args.out.now)
    (g.W.Write.contents c.replay_lines.new.out) (g.W.Write.contents c.flush.new.self)
    c.in-Ok.ending c.in-Ok.ensures.whole c.flush.ensures.bytes
