use Rattle.std.proofs.Common.{refl, sym, subst}
use Rattle.hub.specs.Posts.{IsNotNext}
use Rattle.hub.proofs.hub.Hub.refuse_number.Goals as goal

pub returns : goal.returns
returns g c = (
  refl,
  subst (IsNotNext c.args.pass.now c.args.found) (sym c.in-Some.ensures) c.requires.not_next,
)
