use Rattle.std.proofs.Common.{◌≡◌, ◌++◌, drop, map}
use Rattle.std.specs.Prelude.{string_bytes}
use Rattle.command_line.proofs.hosts.copied.Given as goal

-- those that are copied and those that are left are all
abbrev pub invariant-loop-text : goal.invariant-loop-text
invariant-loop-text l =
    map string_bytes l.hosts.items ++ map (λ text. text.now) (drop l.text-index l.texts)
    ≡ map (λ text. text.now) l.texts
