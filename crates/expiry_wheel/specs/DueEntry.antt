use Rattle.std.specs.Prelude.{ℕ, ◌⊎◌}
use Rattle.std.proofs.Common.{inl, inr}
use Rattle.expiry_wheel.specs.declared.due.DueEntry.{DueEntry}
use Rattle.expiry_wheel.specs.declared.due.DueEntry.TheVariants.{First, Second}

-- a planned entry that is lent, as an entry of the first list or of the second
abbrev pub view_of_entry : {T U : Type 0} → DueEntry T U → (ℕ × T) ⊎ (ℕ × U)
view_of_entry (First at item) = inl (at, item.now)
view_of_entry (Second at item) = inr (at, item.now)
