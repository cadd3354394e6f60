use Rattle.place_plans.specs.Forms.{Fits, links_of, room_of}
use Rattle.std.proofs.Common.{◌≡◌, ℕ, ◌≤◌, ◌+◌, ◌-◌, ◌++◌, None, length, replicate}
use Rattle.std.specs.Prelude.{◌⊎◌}
use Rattle.place_plans.proofs.plans.grow.Given as goal

abbrev pub invariant-loop-more : goal.invariant-loop-more
invariant-loop-more l = record {
  items : (links_of l.links) ≡ (links_of l.fn.links)
      ++ replicate (l._more - length (links_of l.fn.links)) None;
  room : l.place + 1 ≤ l._more + room_of l.links;
  upto : (l._more ≤ l.place + 1) ⊎ (l._more ≡ length (links_of l.fn.links));
  fits : (x : ℕ × ℕ) → Fits l.fn.links x → Fits l.links x;
  from : length (links_of l.fn.links) ≤ l._more;
}
