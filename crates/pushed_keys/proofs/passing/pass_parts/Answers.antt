use Rattle.std.specs.Arc.{arc_value}
use Rattle.pushed_keys.specs.Packed.{marks_of}
use Rattle.pushed_keys.proofs.Through.{one_passed}
use Rattle.pushed_keys.proofs.passing.pass_parts.Goals as goal

pub loop-part-preserved : goal.loop-part-preserved
loop-part-preserved c =
    one_passed c.args.pushed.now c.args.turn c.args.moves.now (marks_of c.args.marks)
    (marks_of c.loop-part.left) (marks_of c.in-Some.behind) (arc_value c.in-Some.part.now)
    c.args.done.now c.loop-part.done _ c.loop-part.invariant c.in-Some.ensures.below
    c.in-Some.ensures.marks c.in_ok-pass_part.ensures
