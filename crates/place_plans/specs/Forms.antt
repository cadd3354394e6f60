use Rattle.std.specs.Prelude.{ℕ, List, Option, ◌<◌}
use Rattle.place_plans.specs.declared.all_links.Links.{Links}
use Rattle.place_plans.specs.declared.all_links.Links.TheVariants.{Short, Wide}

-- the moment and the number of each place
abbrev pub links_of : Links → List (Option (ℕ × ℕ))
links_of (Short links) = links.items
links_of (Wide links) = links.items

-- for how many further places there is memory
abbrev pub room_of : Links → ℕ
room_of (Short links) = links.room
room_of (Wide links) = links.room

-- whether a moment and a number can be laid down
abbrev pub Fits : Links → ℕ × ℕ → Type 0
Fits (Short links) link = (link.0 < 1099511627776) × (link.1 < 16777215)
Fits (Wide links) link = link.1 < 4294967295
