use Rattle.standing_filters.proofs.Planning.{none_come}
use Rattle.standing_filters.proofs.watch.Watch.take_due.Goals as goal

pub returns-clause-none : goal.returns-clause-none
returns-clause-none c =
    none_come c.args.t c.take_due.result c.args.self.now
    (record {
      filter = c.self.inside.filter;
      places = c.self.inside.kept.places;
      room = c.self.inside.kept.room;
      plans = c.self.inside.plans;
    })
    c.take_due.new.self c.requires c.self.view_is c.take_due.ensures.same c.take_due.ensures.none
