use Rattle.std.proofs.Common.{◌≡◌, take, IfSome}
use Rattle.program.specs.Texts.{joined_of}
use Rattle.program.proofs.texts.join.Given as goal

-- the files so far were read
abbrev pub invariant-loop-name : goal.invariant-loop-name
invariant-loop-name g l = IfSome (joined_of (g.F.Files.holds l.files) (take l.name-index l.names))
    (λ known. l.text.items ≡ known)
