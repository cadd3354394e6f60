use Rattle.std.proofs.Common.{IfSome, Option, subst}
use Rattle.set_changes.specs.Numbered.{AreChangesOf, Numbered}
use Rattle.hub.proofs.copies.note_changes.Goals as goal

pub returns : goal.returns
returns c = λ sets early late kept count says.
    c.note_all.ensures sets early late
    (subst (λ (o : Option Numbered). IfSome o (λ n. AreChangesOf n sets early)) c.in-Some.is kept)
    count says
