-- What holds of each entry of the table of columns holds of every column.
use Rattle.std.proofs.Common.{◌≡◌, ℕ, zero, suc, Bool, true, false, List, [], ◌∷◌, Some}
use Rattle.std.proofs.Common.{◌≤◌, map, refl, nat_le, ◌&&◌}
use Rattle.std.proofs.lemmas.Bool.{leb-true}
use Rattle.std.specs.Prelude.{slice_get, slice_index}
use Rattle.std.specs.List.{list_all}
use Rattle.agg_types.specs.Col.{all_cols, col_id, place}
use Rattle.agg_types.specs.declared.column.Col.{Col}
use Rattle.agg_types.specs.declared.column.Col.TheVariants as cols
use Rattle.agg_types.specs.declared.column.TheConstants.{LAST_TYPE}

at_place : (col : Col) → slice_get all_cols (place col) ≡ Some col
at_place cols.Gpc0 = refl
at_place col = refl

value_at : (f : Col → ℕ) (xs : List Col) (i : ℕ) (col : Col) → slice_get xs i ≡ Some col
    → slice_index (map f xs) i ≡ f col
value_at f [] i col is = absurd cc
value_at f (x ∷ xs) zero col is = cc
value_at f (x ∷ xs) (suc i) col is = value_at f xs i col is

pub value_at_place : (f : Col → ℕ) (col : Col) → slice_index (map f all_cols) (place col) ≡ f col
value_at_place f col = value_at f all_cols (place col) col (at_place col)

all_at : (p : Col → Bool) (xs : List Col) (i : ℕ) (col : Col) → list_all p xs ≡ true
    → slice_get xs i ≡ Some col → p col ≡ true
all_at p [] i col all is = absurd cc
all_at p (x ∷ xs) zero col all is = first (p x) (list_all p xs) all refl
  where
    first : (b rest : Bool) → b && rest ≡ true → p x ≡ b → p col ≡ true
    first true rest both same = cc
    first false rest both same = absurd cc
all_at p (x ∷ xs) (suc i) col all is = all_at p xs i col (others (p x) (list_all p xs) all) is
  where
    others : (b rest : Bool) → b && rest ≡ true → rest ≡ true
    others true rest both = both
    others false rest both = absurd cc

-- a test that every entry of the table passes is passed by each column
pub of_each : (p : Col → Bool) → list_all p all_cols ≡ true → (col : Col) → p col ≡ true
of_each p all col = all_at p all_cols (place col) col all (at_place col)

-- no column's number is above the last
pub ids_end : (col : Col) → col_id col ≤ LAST_TYPE
ids_end col = leb-true (col_id col) LAST_TYPE (of_each (λ c. nat_le (col_id c) LAST_TYPE) refl col)
