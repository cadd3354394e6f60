use Rattle.std.proofs.Common.{◌≡◌}
use Rattle.key_text.specs.Read.{elision}
use Rattle.key_text.proofs.Groups.{elided_from}
use Rattle.key_text.proofs.ipv6.elision.Given as goal

-- the first `::` of the text is the first from here on
abbrev pub invariant-loop-at : goal.invariant-loop-at
invariant-loop-at l = elided_from l.at l.text ≡ elision l.text
