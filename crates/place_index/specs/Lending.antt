use Rattle.std.specs.Prelude.{ℕ, List, Option, Some, None, slice_set, slice_get}
use Rattle.std.specs.Borrow.{Lends, Fml, RattleType, MutBor}
use Rattle.place_index.specs.Places.{Numbered, revalued}
use Rattle.std.specs.declared.cmp.Ord as ord
use Rattle.std.specs.declared.cmp.PartialEq as partial_eq
use Rattle.std.specs.declared.cmp.PartialOrd as partial_ord
use Rattle.place_index.specs.declared.key.IndexKey as index_key
use Rattle.place_index.specs.declared.slots.Slot.{Slot}
use Rattle.place_index.specs.declared.slots.Slots.{Slots}
use Rattle.place_index.specs.contracts.index.PlaceIndex as place_index
use Rattle.place_index.specs.contracts.slots.Slot as slot
use Rattle.place_index.specs.contracts.slots.Slots as slots

-- a slot with another value
abbrev pub with_value : {K V : Type 0} → Slot K V → V → Slot K V
with_value slot value = record slot { value = value }

-- a slot ends with the last value behind r
abbrev pub lends_value : (K V : RattleType) → MutBor (Slot K.Denot V.Denot) → MutBor V.Denot → Fml
lends_value K V s r = Lends (slot.the_row K V) V s r (with_value s.now)

-- the slot of a number with another value
abbrev pub with_value_in : {K V : Type 0} → Option (Slot K V) → List (Slot K V) → ℕ → V
    → List (Slot K V)
with_value_in None slots at value = slots
with_value_in (Some slot) slots at value = slice_set slots at (with_value slot value)

-- the slots with another value in this one of them, which is the one of a number
abbrev pub with_slot : {K V : Type 0} → Slots K V → Option (Slot K V) → ℕ → V → Slots K V
with_slot s slot at value =
    record s { slots = record s.slots { items = with_value_in slot s.slots.items at value } }

-- slots end with the last value behind r in the one of a number
abbrev pub lends_held : (K V : RattleType) → MutBor (Slots K.Denot V.Denot) → ℕ
    → MutBor V.Denot → Fml
lends_held K V s at r =
    Lends (slots.the_row K V) V s r (with_slot s.now (slice_get s.now.slots.items at) at)

-- an index with another value in a place, beside its key
abbrev pub with_place : {K V : Type 0} → Numbered K V → ℕ → V → Numbered K V
with_place index at value = record index { places = revalued index.places at value }

-- an index ends with the last value behind r in the place of a number
module _ (K V : RattleType) (i : index_key.Ghosts K.Denot) (o : ord.Ghosts K.Denot)
    (e : partial_eq.Ghosts K.Denot) (p : partial_ord.Ghosts K.Denot) where
  abbrev pub lends_place : MutBor (Numbered K.Denot V.Denot) → ℕ → MutBor V.Denot → Fml
  lends_place s at r =
      Lends (place_index.the_row K V i o e p) V s r (with_place s.now at)
