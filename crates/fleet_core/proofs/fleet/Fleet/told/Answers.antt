use Rattle.std.proofs.Common.{◌∙◌, ap, option_map}
use Rattle.fleet_core.specs.Links.{found}
use Rattle.fleet_core.specs.Represents.{Collected}
use Rattle.fleet_core.proofs.Turned.{teller_is}
use Rattle.fleet_core.proofs.fleet.Fleet.told.Goals as goal

pub returns : goal.returns
returns c = λ config opening past h.
    c.teller_at.ensures ∙ ap (λ (f : Collected). option_map (λ connection. connection.teller)
    (found f.links c.args.conn)) c.self.view_is
    ∙ teller_is c.args.self.now config opening past c.args.conn h
