use Rattle.std.proofs.Common.{◌≡◌, ◌++◌, drop, map}
use Rattle.std.specs.List.{flat_map}
use Rattle.replay.specs.Tellings.{key_line}
use Rattle.replay.proofs.tellings.append_keys.Given as goal

-- what is appended, and what is still to be
abbrev pub invariant-loop-key : goal.invariant-loop-key
invariant-loop-key l =
    l.out.items ++ flat_map (key_line l.kind) (map (λ key. key.now) (drop l.key-index l.keys))
    ≡ l.fn.out.items ++ flat_map (key_line l.kind) (map (λ key. key.now) l.keys)
