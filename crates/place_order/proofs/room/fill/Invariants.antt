use Rattle.std.proofs.Common.{◌≡◌, ◌≤◌, ◌+◌, ◌-◌, ℕ, length, slice_index_or}
use Rattle.place_order.specs.Room.{space_in}
use Rattle.place_order.proofs.room.fill.Given as goal

abbrev pub invariant-loop-blank : goal.invariant-loop-blank
invariant-loop-blank g l =
    record {
      more : length l.initial.segments.items ≤ length l.segments.items;
      same : (q : ℕ) → slice_index_or l.segments.items q l.blank
          ≡ slice_index_or l.initial.segments.items q l.blank;
      space : space_in l.segments ≡ space_in l.initial.segments;
    }

abbrev pub decreases-loop-blank : goal.decreases-loop-blank
decreases-loop-blank g l = (l.place + 1) - length l.segments.items
