use Rattle.std.proofs.Common.{arith}
use Rattle.std.proofs.lemmas.List.{with_items_is}
use Rattle.fleet_sums.proofs.key_sums.KeySums.replace_row.Goals as goal

pub replace_counts-requires-clause-room : goal.replace_counts-requires-clause-room
replace_counts-requires-clause-room c =
    let few = c.self.invariant.few in
    let some = rw (← c.self.view_is) at c.requires.can.some in
    rw c.deref_mut.ensures.value (λ col. let left =
    rw (← c.self.view_is) at (c.requires.can.left col) in omega (arith, few, some, left))

pub invariant_of-self : goal.invariant_of-self
invariant_of-self c =
    let few = c.self.invariant.few in
    let some = rw (← c.self.view_is) at c.requires.can.some in
    rw (with_items_is c.self.inside.totals c.replace_counts.new.totals (omega arith))
    (record {
      few = omega (arith, few);
      bound = λ col.
          let bound = rw c.deref_mut.ensures.value at (c.replace_counts.ensures.bound col) in
          let left = rw (← c.self.view_is) at (c.requires.can.left col) in
          omega (arith, bound, left, some);
    })
