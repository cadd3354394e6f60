use Rattle.std.proofs.Common.{refl}
use Rattle.fleet_core.proofs.Begun.{opened_stands}
use Rattle.fleet_core.proofs.fleet.Fleet.new.Goals as goal

pub returns-clause-stands : goal.returns-clause-stands
returns-clause-stands c =
    opened_stands _ c.in_ok-book.book c.args.config c.args.moment
    (c.in_ok-apply.ensures.ok)
    c.in_ok-book.ensures.stands
    c.none.ensures
    c.new-2.ensures.empty
    refl
    refl
