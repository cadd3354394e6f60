use Rattle.std.proofs.Common.{◌≡◌, Some, [], ◌∷◌, ◌++◌, ap, subst}
use Rattle.std.specs.Prelude.{slice_get}
use Rattle.agg_types.specs.Check.{all_faults}
use Rattle.agg_types.specs.declared.config.Config.{Config}
use Rattle.agg_config.proofs.Behind.{put_back, put_wrong}
use Rattle.agg_config.proofs.declaring.declare_log.Goals as goal

pub returns-in-Err : goal.returns-in-Err
returns-in-Err c =
    let config : Config = c.args.config.now in
    let more : Config = record config { logs = config.logs ++ c.args.logged ∷ [] } in
    put_wrong config more (record config { logs = c.take_last.new.entries }) c.in-Err.fault
    c.wrong_check.result
    (subst (λ l. slice_get (all_faults (record config { logs = l })) 0 ≡ Some c.in-Err.fault)
    c.in_ok-push.ensures.ok c.in-Err.ensures) c.wrong_check.ensures
    (ap (λ l. record config { logs = l }) (put_back config.logs c.args.logged c.push.new.self
    c.take_last.new.entries c.in_ok-push.ensures.ok c.take_last.ensures))
