use Rattle.std.proofs.Common.{◌≡◌, drop}
use Rattle.std.specs.List.{list_all}
use Rattle.answer_text.specs.Names.{is_bare}
use Rattle.answer_text.proofs.names.are_bare.Given as goal

-- what is left decides
abbrev pub invariant-loop-byte : goal.invariant-loop-byte
invariant-loop-byte l = list_all is_bare (drop l.byte-index l.name) ≡ list_all is_bare l.name
