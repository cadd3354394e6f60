use Rattle.std.proofs.Common.{sym, subst, [], ◌∷◌}
use Rattle.agg_types.specs.declared.event.What.TheVariants.{Leave}
use Rattle.hub.specs.Posts.{IsNotNext, ShowsBatch}
use Rattle.hub.proofs.Posting.{if_shown}
use Rattle.hub.proofs.hub.Hub.leave.Goals as goal

pub returns-in-Ok : goal.returns-in-Ok
returns-in-Ok g c =
    let told = rw c.in-Ok.is at c.leave-left.ensures.told in
    if_shown (ShowsBatch c.args.pass (Leave ∷ [])) c.show.result c.in-Ok.ticket c.show.ensures
    told.shows

pub returns : goal.returns
returns g c =
    let told = rw c.in-Err.is at c.leave-left.ensures.told in (
      told.pass,
      subst (IsNotNext c.args.pass c.in-Err.behind.1) (sym c.in-Some.ensures) told.not_next,
    )
