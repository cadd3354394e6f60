use Rattle.std.proofs.Common.{[], map}
use Rattle.pushed_keys.specs.Packed.{marks_of}
use Rattle.pushed_keys.specs.Stands.{stands}
use Rattle.pushed_keys.proofs.Left.{Done, IsDone}
use Rattle.pushed_keys.proofs.turning.tell.Given as goal

-- what the keys that are left make of what is done, all keys make of nothing
abbrev pub invariant-loop-standing : goal.invariant-loop-standing
invariant-loop-standing l =
    (new : Done) → IsDone l.pushed l.turn l.done l.standing-iterator new
    → IsDone l.pushed l.turn (record { changes = []; kept = [] })
    (stands (map (λ key. key.now) l.fn.set) (marks_of l.marks)) new
