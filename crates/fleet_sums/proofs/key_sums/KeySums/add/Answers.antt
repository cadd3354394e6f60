use Rattle.std.proofs.Common.{arith}
use Rattle.std.proofs.lemmas.List.{with_items_is}
use Rattle.fleet_sums.proofs.key_sums.KeySums.add.Goals as goal

pub add_counts-requires-clause-room : goal.add_counts-requires-clause-room
add_counts-requires-clause-room c = rw c.deref_mut.ensures.value (λ col. let was =
    c.self.invariant.bound col in let few = rw (← c.self.view_is) at c.requires.few in
    omega (arith, was, few))

pub invariant_of-self : goal.invariant_of-self
invariant_of-self c =
    let few = rw (← c.self.view_is) at c.requires.few in
    rw (with_items_is c.self.inside.totals c.add_counts.new.totals (omega arith))
    (record {
      few = omega (arith, few);
      bound = λ col. let more = rw c.deref_mut.ensures.value at (c.add_counts.ensures.bound col) in
          let was = c.self.invariant.bound col in omega (arith, more, was);
    })
