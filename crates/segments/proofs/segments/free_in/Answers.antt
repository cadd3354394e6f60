use Rattle.std.proofs.Common.{◌-◌, length, refl, arith, rules}
use Rattle.segments.proofs.Joined.{free_seen}
use Rattle.segments.proofs.segments.free_in.Goals as goal

pub returns-in-Some : goal.returns-in-Some
returns-in-Some g c =
    let all = free_seen c.args.segments.now.items c.in-Some.last.now
    (length c.args.segments.now.items - 1) c.saturating_sub.result c.requires refl
    (search rules) (omega arith) in
    omega arith
