use Rattle.std.proofs.Common.{ap, arith}
use Rattle.standing_filters.specs.Plans.{Watching}
use Rattle.standing_filters.proofs.Planning.{watch_all}
use Rattle.standing_filters.proofs.watch.Watch.plan_all.Goals as goal

pub returns-clause-stay : goal.returns-clause-stay
returns-clause-stay c =
    watch_all c.args.self.now
    (record {
      filter = c.loop-at.self-inside.filter;
      places = c.loop-at.self-inside.kept.places;
      room = c.loop-at.self-inside.kept.room;
      plans = c.loop-at.self-inside.plans;
    }) c.loop-at.at c.requires c.loop-at.invariant.filter c.loop-at.invariant.places
    (omega (arith, ap (λ (w : Watching). Rattle.std.specs.Prelude.length w.places) c.self.view_is))
    c.loop-at.invariant.planned c.loop-at.invariant.others
