use Rattle.std.proofs.Common.{◌≡◌, take}
use Rattle.peer_rows.specs.Places.{by_place, shown}
use Rattle.peer_rows.proofs.listing.listed.Given as goal

-- the keys of the places so far are listed
abbrev pub invariant-loop-at : goal.invariant-loop-at
invariant-loop-at l = shown l.keys.items ≡ by_place (take l.at l.index.places)
