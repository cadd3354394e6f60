use Rattle.std.proofs.Common.{◌≡◌, drop, map}
use Rattle.std.specs.List.{list_all}
use Rattle.command_line.specs.Hosts.{is_host_name}
use Rattle.command_line.proofs.hosts.are_host_names.Given as goal

-- each so far is a host's name
abbrev pub invariant-loop-text : goal.invariant-loop-text
invariant-loop-text l = list_all is_host_name (map (λ text. text.now) (drop l.text-index l.texts))
    ≡ list_all is_host_name (map (λ text. text.now) l.texts)
