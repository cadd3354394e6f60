use Rattle.std.proofs.Common.{rules}
use Rattle.peer_rows.proofs.Kept.{kept-none}
use Rattle.peer_rows.proofs.table.Table.new.Goals as goal

pub invariant_of-result : goal.invariant_of-result
invariant_of-result c = kept-none c.new.result c.in_ok-vec.field-0.items c.args.peers
    c.new.ensures (c.in_ok-vec.ensures.items_if_clones_equal (search rules))
