use Rattle.std.proofs.Common.{◌≡◌, ◌++◌, drop}
use Rattle.std.specs.List.{flat_map}
use Rattle.config_text.specs.Spaced.{push_line, push_lines}
use Rattle.config_text.proofs.lines.append_pushes.Given as goal

-- what is written and what is left to write are all
abbrev pub invariant-loop-push : goal.invariant-loop-push
invariant-loop-push l =
    l.out.items ++ flat_map push_line (drop l.push-index l.config.pushes)
    ≡ l.fn.out.items ++ push_lines l.config
