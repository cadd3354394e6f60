use Rattle.std.proofs.Common.{arith}
use Rattle.std.proofs.lemmas.List.{with_items_is}
use Rattle.fleet_sums.proofs.Columns.{get_or-totals_less}
use Rattle.fleet_sums.proofs.key_sums.KeySums.drop_row.Goals as goal

pub invariant_of-self : goal.invariant_of-self
invariant_of-self c =
    let is = rw c.deref_mut.ensures.value at c.take_counts.ensures in
    rw (with_items_is c.self.inside.totals c.take_counts.new.totals (omega arith), is)
    (record {
      few = let few = c.self.invariant.few in omega (arith, few);
      bound = λ col. rw get_or-totals_less (rw (← c.self.view_is) at (c.requires.left col));
    })
