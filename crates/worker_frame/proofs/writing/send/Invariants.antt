use Rattle.std.proofs.Common.{◌≡◌, ◌++◌, ℕ, List}
use Rattle.std.specs.Io.KnownBytes.{Appends}
use Rattle.worker_frame.proofs.writing.send.Given as goal

-- some of the bytes were written, and the others are left
abbrev pub invariant-loop : goal.invariant-loop
invariant-loop g l =
    (sent : List ℕ) × (l.fn.bytes ≡ sent ++ l.rest)
    × Appends (g.W.Write.contents l.fn.writer) (g.W.Write.contents l.writer) sent
