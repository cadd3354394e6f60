use Rattle.std.proofs.Common.{◌≡◌, ◌+◌, ◌-◌, ◌^◌, get_or, arith}
use Rattle.std.proofs.lemmas.List.{get_or_read}
use Rattle.fleet_sums.proofs.Columns.{next_done, bound-set}
use Rattle.fleet_sums.proofs.key_sums.add_counts.Goals as goal

pub add-requires : goal.add-requires
add-requires c =
    let read : c.index-totals-col.result ≡ get_or c.loop-col.totals c.loop-col.col 0 =
    get_or_read c.loop-col.totals c.loop-col.col c.index-totals-col.result (omega arith)
    c.index-totals-col.is 0 in
    let rest = c.loop-col.invariant.done.rest c.loop-col.col (omega arith) in
    let room = c.requires.room c.loop-col.col in
    omega (arith, read, rest, room)

pub loop-col-preserved : goal.loop-col-preserved
loop-col-preserved c =
    let read : c.index-totals-col.result ≡ get_or c.loop-col.totals c.loop-col.col 0 =
    get_or_read c.loop-col.totals c.loop-col.col c.index-totals-col.result (omega arith)
    c.index-totals-col.is 0 in
    let rest = c.loop-col.invariant.done.rest c.loop-col.col (omega arith) in
    record {
      done = next_done (λ t n. t + n) c.args.totals.now c.args.row.now.cells c.loop-col.col
          c.loop-col.totals c.add.new.self c.loop-col.invariant.done (omega arith) (omega arith)
          (omega (arith, read));
      bound = bound-set c.loop-col.totals c.args.totals.now c.loop-col.col c.add.new.self
          (2 ^ 64 - 1) (omega arith) c.loop-col.invariant.bound (omega (arith, read, rest));
    }
