use Rattle.std.proofs.Common.{◌∙◌}
use Rattle.left_right.specs.Sides.{view}
use Rattle.hub.proofs.Publishes.{shows}
use Rattle.hub.proofs.hand.show.Goals as goal

pub publish_as-requires : goal.publish_as-requires
publish_as-requires g c next is = shows c.args.writer.desk.place.id (view c.args.writer.desk.place)
    c.args.writer.desk.shown.value next c.args.front.now (is ∙ c.requires.brings) c.requires.named
