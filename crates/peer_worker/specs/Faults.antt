-- Which cause a fault of a step is.
use Rattle.peer_worker.specs.declared.faults.AnswerFault.{AnswerFault}
use Rattle.peer_worker.specs.declared.faults.AnswerFault.TheVariants as answers
use Rattle.peer_worker.specs.declared.faults.TurnFault.{TurnFault}
use Rattle.peer_worker.specs.declared.faults.TurnFault.TheVariants as turns
use Rattle.worker_frame.specs.declared.served.Cause.{Cause}
use Rattle.worker_frame.specs.declared.served.Cause.TheVariants as causes

abbrev pub turn_fault_of : AnswerFault → TurnFault
turn_fault_of answers.Write = turns.Write
turn_fault_of (answers.Post refusal) = turns.Post refusal
turn_fault_of answers.Signal = turns.Write

abbrev pub cause_of_turn : TurnFault → Cause
cause_of_turn turns.Write = causes.Write
cause_of_turn (turns.Post refusal) = causes.Post refusal
cause_of_turn (turns.Session cause) = causes.Session cause
