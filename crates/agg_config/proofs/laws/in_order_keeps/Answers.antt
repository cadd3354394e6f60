use Rattle.agg_config.proofs.Ordered.{in_order_keeps}
use Rattle.agg_config.proofs.laws.in_order_keeps.Goals as goal

pub returns : goal.returns
returns c = in_order_keeps c.args.col c.args.cols.now
