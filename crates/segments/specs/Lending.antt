-- What a borrow of an item leaves in a list in segments.
use Rattle.std.specs.Prelude.{ℕ, List, slice_set}
use Rattle.std.specs.Borrow.{Lends, Fml, RattleType, MutBor}
use Rattle.segments.specs.Segments.{Roomy}
use Rattle.segments.specs.contracts.segments.Segment as segment
use Rattle.segments.specs.contracts.segments.Segments as segments

-- a segment ends with the item of a number set to the last value behind r
abbrev pub lends_item : (T : RattleType) → MutBor (List T.Denot) → ℕ → MutBor T.Denot → Fml
lends_item T s at r = Lends (segment.the_row T) T s r (slice_set s.now at)

-- the items with another one at a number, and the same room
abbrev pub with_item : {X : Type 0} → Roomy X → ℕ → X → Roomy X
with_item s at item = record s { items = slice_set s.items at item }

-- segments end with the item of a number set to the last value behind r
abbrev pub lends_joined : (T : RattleType) → MutBor (Roomy T.Denot) → ℕ → MutBor T.Denot → Fml
lends_joined T s at r = Lends (segments.the_row T) T s r (with_item s.now at)
