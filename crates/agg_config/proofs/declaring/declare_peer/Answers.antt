use Rattle.agg_config.proofs.Behind.{peer_fine, peer_wrong}
use Rattle.agg_config.proofs.declaring.declare_peer.Goals as goal

pub returns-in_ok-push-in-Ok : goal.returns-in_ok-push-in-Ok
returns-in_ok-push-in-Ok c =
    peer_fine c.args.config.now c.args.name c.push.new.self _ c.requires c.in-Ok.ensures
    c.in_ok-push-in-Ok.ensures.ok

pub returns-in-Err : goal.returns-in-Err
returns-in-Err c =
    peer_wrong c.args.config.now c.args.name c.in-Err.fault c.wrong_check.result c.requires
    c.in-Err.ensures c.wrong_check.ensures
