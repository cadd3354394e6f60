use Rattle.std.proofs.Common.{◌≡◌, ℕ, List, map, take}
use Rattle.std.specs.BTreeMap.{get}
use Rattle.std.specs.Cmp.Lexicographic.{slice_cmp}
use Rattle.std.specs.Ordering.{nat_cmp}
use Rattle.set_moves.specs.Moving.{AreMoved, first_of}
use Rattle.set_moves.proofs.moved.what_moved.Given as goal

-- all is so of the changes that were gone through
abbrev pub invariant-loop-change : goal.invariant-loop-change
invariant-loop-change l = record {
  firsts : (key : List ℕ) → get (slice_cmp nat_cmp) l.firsts key
      ≡ first_of (map (λ change. change.now) (take l.change-index l.changes)) key;
  moved : AreMoved (map (λ change. change.now) (take l.change-index l.changes)) l.entered.keys
      l.left.keys;
}
