-- Places in a search tree: left of each those before it, right of it those after it.
use Rattle.std.specs.Prelude.{◌≡◌, ◌≢◌, ◌<◌, ℕ, Bool, true, false, List, [], ◌∷◌, ◌++◌, length}
use Rattle.std.specs.Prelude.{slice_index_or}
use Rattle.std.specs.List.{AllByRecursion}
use Rattle.place_order.specs.declared.nodes.Node.{Node}
use Rattle.place_order.specs.Chains.{last_of}
use Rattle.place_order.specs.Orders.{AreDistinct, IsApart, IsPlaceIn}

-- the shape of a tree, with the place of each node
pub data Shape : Type 0 where
  Empty : Shape
  Fork : (before : Shape) (at : ℕ) (after : Shape) → Shape

-- its places in order
abbrev pub listed : Shape → List ℕ
listed Empty = []
listed (Fork before at after) = listed before ++ at ∷ listed after

-- a node without children
abbrev pub blank : Node
blank = record { left = 4294967295; right = 4294967295; height = 0 }

-- the node of a place
abbrev pub node_in : List Node → ℕ → Node
node_in nodes place = slice_index_or nodes place blank

-- the nodes below a root have this shape
abbrev pub AreLaid : List Node → ℕ → Shape → Type 0
AreLaid nodes root Empty = root ≡ 4294967295
AreLaid nodes root (Fork before at after) =
    (root ≡ at) × IsPlaceIn (length nodes) at
    × AreLaid nodes (node_in nodes at).left before × AreLaid nodes (node_in nodes at).right after

-- the nodes below a root are a tree of these places
pub record IsTreeOf (nodes : List Node) (root : ℕ) (places : List ℕ) : Type 0 where
  pub shape : Shape
  pub laid : AreLaid nodes root shape
  pub is : listed shape ≡ places

-- a node got these children, and all others are as they were
pub record IsJoined (old new : List Node) (left at right : ℕ) : Type 0 where
  pub len : length new ≡ length old
  pub to_left : at < length old → (node_in new at).left ≡ left
  pub to_right : at < length old → (node_in new at).right ≡ right
  pub others : (q : ℕ) → q ≢ at → node_in new q ≡ node_in old q

-- there is a tree of some places now, and no nodes but those of touched places were written
pub record IsMade (old new : List Node) (root : ℕ) (touched places : List ℕ) : Type 0 where
  pub tree : IsTreeOf new root places
  pub len : length new ≡ length old
  pub others : (q : ℕ) → IsApart q touched → node_in new q ≡ node_in old q

-- a place between two trees becomes the place in the middle of one
abbrev pub BecomesOne : List Node → List Node → ℕ → ℕ → ℕ → ℕ → Type 0
BecomesOne old new left at right root =
    (ls rs : List ℕ) → IsTreeOf old left ls → IsTreeOf old right rs
    → IsPlaceIn (length old) at → AreDistinct (ls ++ at ∷ rs)
    → IsMade old new root (ls ++ at ∷ rs) (ls ++ at ∷ rs)

-- places in two parts, one that passes a test with its last place, and one that doesn't
pub record IsCut (test : ℕ → Bool) (none last : ℕ) (places : List ℕ) : Type 0 where
  pub front : List ℕ
  pub back : List ℕ
  pub is : places ≡ front ++ back
  pub at_end : last ≡ last_of none front
  pub passes : AllByRecursion (λ p. test p ≡ true) front
  pub fails : AllByRecursion (λ p. test p ≡ false) back
