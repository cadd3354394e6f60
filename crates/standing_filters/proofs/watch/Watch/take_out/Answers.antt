use Rattle.std.proofs.Common.{refl}
use Rattle.standing_filters.proofs.Settling.{emptied_watch}
use Rattle.standing_filters.proofs.watch.Watch.take_out.Goals as goal

pub returns-clause-stay : goal.returns-clause-stay
returns-clause-stay c =
    emptied_watch c.args.at c.args.self.now
    (record {
      filter = c.self.inside.filter;
      places = c.self.inside.kept.places;
      room = c.self.inside.kept.room;
      plans = c.self.inside.plans;
    })
    (record {
      filter = c.self.inside.filter;
      places = c.remove.new.self.places;
      room = c.remove.new.self.room;
      plans = c.plan.new.self;
    }) c.self.view_is refl c.remove.ensures.after c.requires c.remove.ensures.distinct
    c.plan.ensures
