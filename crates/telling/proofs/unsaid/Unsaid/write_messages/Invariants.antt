use Rattle.std.proofs.Common.{length}
use Rattle.telling.specs.Unsaid.{IsPiece, unsaid_messages}
use Rattle.telling.proofs.unsaid.Unsaid.write_messages.Given as goal

-- a piece is written so far
abbrev pub invariant-loop : goal.invariant-loop
invariant-loop l = IsPiece l.pushed l.fn.self l.self l.piece.items

abbrev pub decreases-loop : goal.decreases-loop
decreases-loop l = length (unsaid_messages l.pushed l.self)
