-- What holds of places that are kept in order.
use Rattle.std.specs.Prelude.{◌≤◌, ℕ, List}
use Rattle.segments.specs.Segments.{Roomy}
use Rattle.place_order.specs.declared.nodes.Node.{Node}
use Rattle.place_order.specs.Chains.{AreChained}
use Rattle.place_order.specs.Orders.{AreBelow, AreDistinct}
use Rattle.place_order.specs.Room.{space_in}
use Rattle.place_order.specs.Trees.{IsTreeOf}

-- a tree and a chain have the same places, each once, and there is memory for those below the room
pub record AreKept (nodes : Roomy Node) (root : ℕ) (nexts : Roomy ℕ) (first : ℕ)
    (places : List ℕ) (room : ℕ) : Type 0 where
  pub tree : IsTreeOf nodes.items root places
  pub chain : AreChained nexts.items first places
  pub distinct : AreDistinct places
  pub below : AreBelow room places
  pub tree_space : room ≤ space_in nodes
  pub chain_space : room ≤ space_in nexts
  pub small : room ≤ 4294967295
