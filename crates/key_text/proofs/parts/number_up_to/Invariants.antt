use Rattle.std.proofs.Common.{◌≡◌, ◌≤◌, drop}
use Rattle.key_text.specs.Read.{number_up_to}
use Rattle.key_text.proofs.Numerals.{number_from}
use Rattle.key_text.proofs.parts.number_up_to.Given as goal

-- what is left to read, behind the number so far, gives the answer
abbrev pub invariant-loop-byte : goal.invariant-loop-byte
invariant-loop-byte l =
    record {
      rest : number_from l.radix l.most l.number (drop l.byte-index l.text) ≡ number_up_to l.radix
          l.most l.text;
      within : l.number ≤ l.most;
    }
