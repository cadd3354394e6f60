use Rattle.turn_laws.proofs.ByPlace.{force_by_place, heard_by_place}
use Rattle.turn_laws.proofs.reading.updates_are_under_their_tables.Goals as goal

pub returns : goal.returns
returns c = record { heard = heard_by_place; behind = force_by_place }
