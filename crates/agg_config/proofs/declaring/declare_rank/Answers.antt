use Rattle.std.proofs.Common.{◌≡◌, Some, [], ◌∷◌, ◌++◌, ap, subst}
use Rattle.std.specs.Prelude.{slice_get}
use Rattle.agg_types.specs.Check.{all_faults}
use Rattle.agg_types.specs.declared.config.Config.{Config}
use Rattle.agg_config.proofs.Behind.{put_back, put_wrong}
use Rattle.agg_config.proofs.declaring.declare_rank.Goals as goal

pub returns-in-Err : goal.returns-in-Err
returns-in-Err c =
    let config : Config = c.args.config.now in
    let more : Config = record config { ranks = config.ranks ++ c.args.rank ∷ [] } in
    put_wrong config more (record config { ranks = c.take_last.new.entries }) c.in-Err.fault
    c.wrong_check.result
    (subst (λ l. slice_get (all_faults (record config { ranks = l })) 0 ≡ Some c.in-Err.fault)
    c.in_ok-push.ensures.ok c.in-Err.ensures) c.wrong_check.ensures
    (ap (λ l. record config { ranks = l }) (put_back config.ranks c.args.rank c.push.new.self
    c.take_last.new.entries c.in_ok-push.ensures.ok c.take_last.ensures))
