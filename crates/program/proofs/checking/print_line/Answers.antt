use Rattle.std.proofs.Common.{ℕ, List, ◌++◌, codes, decimal, subst, OnOk}
use Rattle.std.specs.Io.KnownBytes.{Appends}
use Rattle.program.proofs.checking.print_line.Goals as goal

pub returns : goal.returns
returns g c =
    let before = g.O.Write.contents c.args.output.now in
    let after = g.O.Write.contents c.writeln.new.self in
    let Wrote : List ℕ → Type 0 = λ name. OnOk c.writeln.result (Appends before after
    (codes "config line " ++ (decimal c.args.fault.line ++ (codes ": " ++ (name
    ++ codes "\n"))))) in
    subst Wrote c.name-name.ensures c.writeln.ensures.bytes
