use Rattle.std.proofs.Common.{◌≡◌, ◌++◌, codes, drop}
use Rattle.std.specs.List.{flat_map}
use Rattle.config_text.specs.Spaced.{log_lines, named_line}
use Rattle.config_text.proofs.lines.append_logs.Given as goal

-- what is written and what is left to write are all
abbrev pub invariant-loop-logged : goal.invariant-loop-logged
invariant-loop-logged l =
    l.out.items ++ flat_map (λ logged. named_line (codes "log") logged.filter)
    (drop l.logged-index l.config.logs) ≡ l.fn.out.items ++ log_lines l.config
