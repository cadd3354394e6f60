use Rattle.std.proofs.Common.{◌≡◌, ◌++◌, length}
use Rattle.telling.specs.Telling.{text_of}
use Rattle.telling.specs.Unsaid.{unsaid_messages}
use Rattle.telling.proofs.unsaid.Unsaid.text.Given as goal

-- the bytes so far, and those of what is left
abbrev pub invariant-loop-text : goal.invariant-loop-text
invariant-loop-text l =
    l.text.items ++ text_of (unsaid_messages l.pushed l.left)
    ≡ text_of (unsaid_messages l.pushed l.fn.self)

abbrev pub decreases-loop-text : goal.decreases-loop-text
decreases-loop-text l = length (unsaid_messages l.pushed l.left)
