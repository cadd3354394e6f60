-- Which cause a fault of a line is.
use Rattle.admin_worker.specs.declared.faults.LineFault.{LineFault}
use Rattle.admin_worker.specs.declared.faults.LineFault.TheVariants as lines
use Rattle.worker_frame.specs.declared.served.Cause.{Cause}
use Rattle.worker_frame.specs.declared.served.Cause.TheVariants as causes

abbrev pub cause_of_line : LineFault → Cause
cause_of_line lines.Write = causes.Write
cause_of_line (lines.Post refusal) = causes.Post refusal
cause_of_line lines.Look = causes.Look
