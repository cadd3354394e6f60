use Rattle.std.proofs.Common.{◌≡◌, ◌≤◌, ℕ, vec_len}
use Rattle.segments.specs.Segments.{AreBlank}
use Rattle.segments.proofs.segments.add_blank.Given as goal

abbrev pub invariant-loop-have : goal.invariant-loop-have
invariant-loop-have g l =
    record {
      blanks : AreBlank l.blank.items;
      counted : vec_len l.blank ≡ l._have;
      bounded : (most : ℕ) → vec_len l.initial.blank ≤ most → l.number ≤ most
          → l._have ≤ most;
    }
