use Rattle.std.proofs.Common.{◌≡◌, ◌++◌, codes, drop}
use Rattle.std.specs.List.{flat_map}
use Rattle.config_text.specs.Spaced.{ignored_lines, named_line}
use Rattle.config_text.proofs.lines.append_ignored.Given as goal

-- what is written and what is left to write are all
abbrev pub invariant-loop-ignored : goal.invariant-loop-ignored
invariant-loop-ignored l =
    l.out.items ++ flat_map (λ ignored. named_line (codes "ignore") ignored.table)
    (drop l.ignored-index l.config.ignored) ≡ l.fn.out.items ++ ignored_lines l.config
