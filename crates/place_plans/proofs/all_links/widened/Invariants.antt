use Rattle.std.proofs.Common.{◌≡◌, ◌≤◌, ◌+◌, take}
use Rattle.place_plans.proofs.all_links.widened.Given as goal

abbrev pub invariant-loop-at : goal.invariant-loop-at
invariant-loop-at l = record {
  items : l.wide.items ≡ take l.at l.short.items;
  room : l.len ≤ l.at + l.wide.room;
}
