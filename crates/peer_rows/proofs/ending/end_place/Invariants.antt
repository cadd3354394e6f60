use Rattle.std.proofs.Common.{◌≡◌, length}
use Rattle.peer_rows.specs.Ends.{OthersStay, StayLive, rows_at}
use Rattle.place_index.specs.Places.{in_order}
use Rattle.peer_rows.specs.Table.{IsKept}
use Rattle.peer_rows.proofs.ending.end_place.Given as goal

abbrev pub invariant-loop-peer : goal.invariant-loop-peer
invariant-loop-peer l = record {
  kept : IsKept (in_order l.keys.places) l.counts.items;
  peers : length l.counts.items ≡ length l.fn.counts.items;
  rows : StayLive l.t l.fn.keys.places l.keys.places;
  others : OthersStay l.at l.fn.keys.places l.keys.places;
}

abbrev pub decreases-loop-peer : goal.decreases-loop-peer
decreases-loop-peer l = length (rows_at l.keys.places l.at)
