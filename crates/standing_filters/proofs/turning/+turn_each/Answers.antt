use Rattle.std.proofs.Common.{List, ◌∷◌, map, sym, subst}
use Rattle.standing_filters.specs.Flips.{TellsFrom, holding}
use Rattle.standing_filters.specs.Plans.{Watching, view_of_watch}
use Rattle.standing_filters.proofs.Said.{from_first, from_none}
use Rattle.standing_filters.proofs.Walking.{more_read}
use Rattle.standing_filters.proofs.turning.+turn_each.Goals as goal

pub returns-clause-counted : goal.returns-clause-counted
returns-clause-counted g t c = λ flat.
    more_read c.args.t c.args.watches.now c.in-Some.first.now c.in-Some.rest.now _ _ _
    c.in-Some.ensures.cases.0 (c.turn_each.ensures.counted flat) (c.turn.ensures.counted flat)

-- ---- what the flips tell
pub returns-in_default-clause-flips : goal.returns-in_default-clause-flips
returns-in_default-clause-flips g t c = λ known.
    from_none c.args.at (map view_of_watch c.args.watches.now) c.args.flips.now known

pub returns-clause-flips : goal.returns-clause-flips
returns-clause-flips g t c = λ known.
    let first = c.in-Some.first.now in
    let made = c.turn.new.self in
    let turned = c.turn_each.new in
    let last = c.turn.new.flips in
    let told = c.turn.ensures.flips known in
    subst (λ (l : List Watching). TellsFrom c.args.at (holding (map view_of_watch l))
    (holding (view_of_watch made ∷ map view_of_watch turned.watches)) c.args.flips.now last)
    (sym c.in-Some.ensures.cases.0)
    (from_first c.args.at (view_of_watch first) (view_of_watch made)
    (map view_of_watch c.in-Some.rest.now) (map view_of_watch turned.watches) c.args.flips.now
    turned.flips last (c.turn_each.ensures.flips told.known) told)
