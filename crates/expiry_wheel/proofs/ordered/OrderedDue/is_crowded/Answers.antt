use Rattle.std.proofs.Common.{◌≤◌, ap, length, arith}
use Rattle.std.proofs.lemmas.Bool.Decides.{nat_tests}
use Rattle.expiry_wheel.specs.Moments.{entries_of}
use Rattle.expiry_wheel.proofs.Grouped.{as_many_entries}
use Rattle.expiry_wheel.proofs.ordered.OrderedDue.is_crowded.Goals as goal

pub returns : goal.returns
returns g c =
    let more : length c.self.inside.moments.entries ≤ length
    (entries_of c.self.inside.moments.entries) =
    as_many_entries g.T.Ord.cmp c.self.inside.moments.entries c.self.invariant in
    λ e. grind (arith, nat_tests, more, ap length c.self.view_is)
