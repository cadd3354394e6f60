use Rattle.std.proofs.Common.{◌≡◌, ◌++◌, drop}
use Rattle.logged_keys.specs.Telling.{told_of}
use Rattle.logged_keys.proofs.round.Round.tell.Given as goal

-- what is told and what is left to tell are all
abbrev pub invariant-loop-change : goal.invariant-loop-change
invariant-loop-change l = record {
  told : l.self.told.items ++ told_of l.filter (drop l.change-index l.changes)
      ≡ l.fn.self.told.items ++ told_of l.filter l.changes;
  left : l.self.left_out ≡ l.fn.self.left_out;
}
