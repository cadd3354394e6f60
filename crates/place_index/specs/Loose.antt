use Rattle.std.specs.Prelude.{◌≡◌, ℕ, List, Some, slice_get}

-- a place is among some
pub record IsLoose (loose : List ℕ) (at : ℕ) : Type 0 where
  pub index : ℕ
  pub is : slice_get loose index ≡ Some at
