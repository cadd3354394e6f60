use Rattle.std.proofs.Common.{ap, subst}
use Rattle.std.specs.Prelude.{IfNone}
use Rattle.place_index.specs.Places.{IsAbsent, Numbered}
use Rattle.place_index.proofs.index.PlaceIndex.find.Goals as goal

pub returns-clause-none : goal.returns-clause-none
returns-clause-none g c =
    subst (λ p. IfNone c.look.result (IsAbsent p c.args.key.now))
    (ap (λ (n : Numbered _ _). n.places) c.self.view_is) c.look.ensures.none
