use Rattle.std.proofs.Common.{MatchOption, subst}
use Rattle.hub.specs.Kept.{Kept}
use Rattle.hub.specs.Posts.{FindsReplaced, NoneReplaced}
use Rattle.hub.proofs.desk.Desk.replaced.Goals as goal

pub returns : goal.returns
returns g c =
    let P : Kept → Type 0 = λ k. MatchOption c.replaced.result
    (NoneReplaced c.args.pass.now k.all.events c.args.whats.now)
    (FindsReplaced c.args.pass.now k.all.events c.args.whats.now) in
    subst P c.self.view_is c.replaced.ensures
