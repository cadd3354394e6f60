use Rattle.std.proofs.Common.{◌≡◌, ◌++◌, drop}
use Rattle.web_text.specs.Labels.{label_text}
use Rattle.web_text.proofs.labels.append_label.Given as goal

-- what is written and what is left are all
abbrev pub invariant-loop-byte : goal.invariant-loop-byte
invariant-loop-byte l = l.out.items ++ label_text (drop l.byte-index l.value)
    ≡ l.fn.out.items ++ label_text l.value
