use Rattle.std.proofs.Common.{refl, sym, subst}
use Rattle.hub.specs.Posts.{IsReplaced}
use Rattle.hub.proofs.hub.Hub.refuse_late.Goals as goal

pub returns : goal.returns
returns g c = (
  refl,
  subst (IsReplaced c.args.pass.now c.args.whats c.args.by) (sym c.in-Some.ensures)
      c.requires.replaced,
)
