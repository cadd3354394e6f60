use Rattle.std.proofs.Common.{take}
use Rattle.std.specs.Io.KnownBytes.{Appends}
use Rattle.program.specs.Checking.{faults_text}
use Rattle.program.proofs.checking.print_lines.Given as goal

-- the faults so far were printed
abbrev pub invariant-loop-fault : goal.invariant-loop-fault
invariant-loop-fault g l = Appends (g.O.Write.contents l.fn.output)
    (g.O.Write.contents l.output) (faults_text (take l.fault-index l.faults))
