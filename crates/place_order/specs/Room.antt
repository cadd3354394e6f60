use Rattle.std.specs.Prelude.{◌+◌, ℕ, length}
use Rattle.segments.specs.Segments.{Roomy}

-- for how many items a list has memory
abbrev pub space_in : {X : Type 0} → Roomy X → ℕ
space_in list = length list.items + list.room
