-- Marks of hashes.
use Rattle.std.specs.Prelude.{ℕ, Bool, ◌%◌, slice_index_or}
use Rattle.place_index.specs.declared.marks.Marks.{Marks}

-- whether a hash is marked: by the flag of its class, or without one as all such classes are
abbrev pub is_marked : Marks → ℕ → Bool
is_marked marks hash = slice_index_or marks.flags.items (hash % marks.classes) marks.beyond
