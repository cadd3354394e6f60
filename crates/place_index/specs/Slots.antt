use Rattle.std.specs.Prelude.{ℕ, ◌==◌, ◌&&◌, not, Bool, false, List, map, Option, Some, None}
use Rattle.std.specs.Prelude.{if◌then◌else◌}
use Rattle.std.specs.List.{enumerate_from}
use Rattle.place_index.specs.declared.slots.Slot.{Slot}
use Rattle.place_index.specs.declared.slots.Slots.{Slots}

-- whether a place is the blank key's own: the one in which that key was laid down, if it was
abbrev pub is_own : Option ℕ → ℕ → Bool
is_own None at = false
is_own (Some own) at = at == own

-- whether a place is empty: a blank key stands there, and the place isn't the blank key's own
abbrev pub is_empty_at : {K : Type 0} → (K → Bool) → Option ℕ → ℕ → K → Bool
is_empty_at is_blank own at key = is_blank key && not (is_own own at)

-- what lies in a place: nothing if it is empty, else the key and the value of its slot
abbrev pub held_in : {K V : Type 0} → (K → Bool) → Option ℕ → (ℕ × Slot K V) → Option (K × V)
held_in is_blank own (at, slot) =
    if is_empty_at is_blank own at slot.key then None else Some (slot.key, slot.value)

-- what lies in each place
abbrev pub held : {K V : Type 0} → (K → Bool) → Slots K V → List (Option (K × V))
held is_blank slots = map (held_in is_blank slots.own) (enumerate_from 0 slots.slots.items)
