use Rattle.program.specs.Checking.{checked_text}
use Rattle.program.proofs.Known.{flushed}
use Rattle.program.proofs.preparing.print_whole.Goals as goal

pub returns : goal.returns
returns g c = flushed c.flush.result (g.O.Write.contents c.args.output.now)
    (g.O.Write.contents c.print_faults.new.output) (g.O.Write.contents c.flush.new.self)
    (checked_text c.args.faults.now) c.in_ok-print_faults.ensures c.flush.ensures.bytes
