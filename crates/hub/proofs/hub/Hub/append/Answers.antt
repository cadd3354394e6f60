use Rattle.std.proofs.Common.{sym, ap, subst}
use Rattle.std.specs.List.{All}
use Rattle.agg_types.specs.declared.config.Config.{Config}
use Rattle.hub.specs.History.{Beginning}
use Rattle.hub.specs.Roll.{MayPost}
use Rattle.hub.proofs.hub.Hub.append.Goals as goal

pub append-requires-clause-fits : goal.append-requires-clause-fits
append-requires-clause-fits g c =
    subst (λ (config : Config). All (MayPost config) c.args.whats)
    (sym (ap (λ (b : Beginning). b.config) c.know.ensures.same)) c.requires.fits
