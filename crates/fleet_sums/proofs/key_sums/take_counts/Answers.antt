use Rattle.std.proofs.Common.{◌≡◌, ◌-◌, get_or, arith}
use Rattle.std.proofs.lemmas.List.{get_or_read}
use Rattle.fleet_sums.proofs.Columns.{next_done}
use Rattle.fleet_sums.proofs.key_sums.take_counts.Goals as goal

pub take-requires : goal.take-requires
take-requires c =
    let read : c.index-totals-col.result ≡ get_or c.loop-col.totals c.loop-col.col 0 =
    get_or_read c.loop-col.totals c.loop-col.col c.index-totals-col.result (omega arith)
    c.index-totals-col.is 0 in
    let rest = c.loop-col.invariant.rest c.loop-col.col (omega arith) in
    let enough = c.requires.enough c.loop-col.col in
    omega (arith, read, rest, enough)

pub loop-col-preserved : goal.loop-col-preserved
loop-col-preserved c =
    let read : c.index-totals-col.result ≡ get_or c.loop-col.totals c.loop-col.col 0 =
    get_or_read c.loop-col.totals c.loop-col.col c.index-totals-col.result (omega arith)
    c.index-totals-col.is 0 in
    next_done (λ t n. t - n) c.args.totals.now c.args.row.now.cells c.loop-col.col c.loop-col.totals
    c.take.new.self c.loop-col.invariant (omega arith) (omega arith) (omega (arith, read))
