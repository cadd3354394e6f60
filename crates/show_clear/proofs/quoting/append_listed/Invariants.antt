use Rattle.std.proofs.Common.{◌≡◌, ◌++◌, [], drop, map}
use Rattle.show_clear.specs.Explained.{listed}
use Rattle.show_clear.proofs.quoting.append_listed.Given as goal

-- what is written and what is left to write are all
abbrev pub invariant-loop-entry : goal.invariant-loop-entry
invariant-loop-entry g l =
    l.out.items ++ listed l.before (map g.T.Named.name_of (drop l.entry-index l.entries))
    ≡ l.fn.out.items ++ listed [] (map g.T.Named.name_of l.entries)
