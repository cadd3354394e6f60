use Rattle.std.specs.Prelude.{ℕ}
use Rattle.std.specs.Borrow.{Bor}

-- an entry whose item is lent, as the entry
abbrev pub lent_entry : {T : Type 0} → ℕ × Bor T → ℕ × T
lent_entry e = (e.0, e.1.now)
