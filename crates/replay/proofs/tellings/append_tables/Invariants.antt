use Rattle.std.proofs.Common.{◌≡◌, ◌++◌, drop}
use Rattle.replay.specs.Tellings.{tables_from}
use Rattle.replay.proofs.tellings.append_tables.Given as goal

-- what is appended, and what is still to be
abbrev pub invariant-loop-before : goal.invariant-loop-before
invariant-loop-before l =
    l.out.items ++ tables_from l.conn l.pushed l.teller l.now l.before (drop l.before l.pushed)
    ≡ l.fn.out.items ++ tables_from l.conn l.pushed l.teller l.now 0 l.pushed
