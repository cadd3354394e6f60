use Rattle.std.proofs.Common.{sym, arith}
use Rattle.fleet_sums.proofs.Keeping.{width-held}
use Rattle.fleet_sums.proofs.table_sums.Table.count_of.Goals as goal

pub total-requires : goal.total-requires
total-requires c =
    let width = width-held c.self.inside.width c.self.inside.keys.entries c.args.key.now
    c.self.invariant c.in-Some.sums.now c.in-Some.sums.now (sym c.in-Some.ensures.value) in
    let in_width = rw (← c.self.view_is) at c.requires in
    omega (arith, width, in_width)
