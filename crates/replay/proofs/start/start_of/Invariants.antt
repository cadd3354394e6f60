use Rattle.std.proofs.Common.{◌≤◌, ◌-◌, ◌^◌}
use Rattle.agg_config.specs.Lines.{lines_read}
use Rattle.replay.specs.Source.{OfLines}
use Rattle.replay.proofs.Cutting.{Looked}
use Rattle.replay.proofs.start.start_of.Given as goal

abbrev pub invariant-lines : goal.invariant-lines
invariant-lines g l = record {
  looked : OfLines (g.R.Read.remaining l.fn.script) (g.R.Read.remaining l.script)
      (Looked l.config l.number);
  room : lines_read l.config ≤ l.number;
}

abbrev pub decreases-lines : goal.decreases-lines
decreases-lines g l = 2 ^ 62 - l.number
