use Rattle.std.proofs.Common.{◌≡◌, ◌++◌, drop}
use Rattle.line_words.specs.Words.{lines_of}
use Rattle.config_text.specs.Explained.{explanations}
use Rattle.config_text.proofs.explained.append_explanations.Given as goal

-- what is written and what is left to write are all; what is left of the text is behind its lines
abbrev pub invariant-loop-fault : goal.invariant-loop-fault
invariant-loop-fault l = record {
  whole : l.out.items ++ explanations (lines_of l.text) (drop l.fault-index l.faults)
      ≡ l.fn.out.items ++ explanations (lines_of l.text) l.faults;
  behind : lines_of l.left ≡ drop l.before (lines_of l.text);
}
