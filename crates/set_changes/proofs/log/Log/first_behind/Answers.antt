use Rattle.std.proofs.Common.{◌-◌, slice_get, refl, arith}
use Rattle.set_changes.proofs.Kept.{one_more, that_is_all}
use Rattle.set_changes.proofs.log.Log.first_behind.Goals as goal

pub loop-place-preserved : goal.loop-place-preserved
loop-place-preserved c =
    let changes = c.args.self.now.changes in
    let place = c.loop-place.place in
    record {
      within = (let w = c.loop-place.invariant.within in omega arith);
      behind = one_more c.args.number changes place (place - 1) (slice_get changes (place - 1))
          c.is_behind.result (omega arith) refl c.if-is_behind.true c.is_behind.ensures
          c.loop-place.invariant.behind;
    }

pub returns-else-is_behind-clause-behind : goal.returns-else-is_behind-clause-behind
returns-else-is_behind-clause-behind c =
    let changes = c.args.self.now.changes in
    let place = c.loop-place.place in
    that_is_all c.args.number changes place (place - 1) (slice_get changes (place - 1))
    c.is_behind.result c.requires c.loop-place.invariant.within (omega arith) refl
    c.if-is_behind.false c.is_behind.ensures c.loop-place.invariant.behind
