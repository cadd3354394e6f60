use Rattle.std.proofs.Common.{◌≡◌, take}
use Rattle.learned_rows.proofs.table.copies_of.Given as goal

-- those so far are copied
abbrev pub invariant-loop-key : goal.invariant-loop-key
invariant-loop-key l = l.copies.items ≡ take l.key-index l.keys
