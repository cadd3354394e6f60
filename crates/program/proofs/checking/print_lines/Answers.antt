use Rattle.std.proofs.Common.{ℕ, List, take, subst}
use Rattle.std.proofs.KnownBytes.{Appends-trans}
use Rattle.std.specs.Io.KnownBytes.{Appends}
use Rattle.program.proofs.Checked.{text_more}
use Rattle.program.proofs.checking.print_lines.Goals as goal

-- one more fault was printed
pub loop-fault-preserved : goal.loop-fault-preserved
loop-fault-preserved g c =
    let before = g.O.Write.contents c.args.output.now in
    let middle = g.O.Write.contents c.loop-fault.output in
    let after = g.O.Write.contents c.print_line.new.output in
    subst (λ (text : List ℕ). Appends before after text)
    (text_more c.args.faults.now c.loop-fault.fault-index _ c.loop-fault-test.true)
    (Appends-trans before middle after _ _ c.loop-fault.invariant c.in_ok-print_line.ensures)
