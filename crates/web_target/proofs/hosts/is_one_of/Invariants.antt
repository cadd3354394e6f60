use Rattle.std.proofs.Common.{◌≡◌, drop, map}
use Rattle.std.specs.List.{list_any}
use Rattle.std.specs.Prelude.{string_bytes}
use Rattle.web_target.specs.Hosts.{is_same_name}
use Rattle.web_target.proofs.hosts.is_one_of.Given as goal

-- none so far is the name
abbrev pub invariant-loop-other : goal.invariant-loop-other
invariant-loop-other l =
    list_any (is_same_name l.name) (map string_bytes (drop l.other-index l.names))
    ≡ list_any (is_same_name l.name) (map string_bytes l.names)
