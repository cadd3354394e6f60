use Rattle.replay.proofs.Source.{line_taken}
use Rattle.replay.proofs.streams.take_line.Goals as goal

pub returns : goal.returns
returns g c =
    line_taken _ _ c.clear.new.self.items c.read_until.new.buf.items c.clear.ensures.items
    c.in_ok-read_until.ensures.bytes c.in_ok-read_until.ensures.rest
