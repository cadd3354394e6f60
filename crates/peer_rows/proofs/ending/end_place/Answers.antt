use Rattle.std.proofs.Common.{◌∙◌}
use Rattle.peer_rows.proofs.ending.end_place.Goals as goal

pub loop-peer-preserved : goal.loop-peer-preserved
loop-peer-preserved c = record {
  kept = c.end_row-gone.ensures.kept;
  peers = c.end_row-gone.ensures.peers ∙ c.loop-peer.invariant.peers;
  rows = c.end_row-gone.ensures.rows c.args.t c.in-Some-first_ended.ensures.some
      ∙ c.loop-peer.invariant.rows;
  others = λ p other. c.end_row-gone.ensures.others p other
      ∙ c.loop-peer.invariant.others p other;
}
