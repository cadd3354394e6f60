-- What the updates of a table have in common that a batch packs.
use Rattle.std.specs.Prelude.{◌≡◌, ℕ, ◌^◌, ◌<◌, true, List, length}
use Rattle.std.specs.Prelude.{slice_index as word}
use Rattle.agg_types.specs.Fits.{row_fits, cells_fit}
use Rattle.agg_types.specs.Kind.{allows}
use Rattle.agg_types.specs.Packed.{packed_cells}
use Rattle.agg_types.specs.declared.column.Col.{Col}
use Rattle.agg_types.specs.declared.config.Shape.{Shape}
use Rattle.agg_types.specs.declared.event.Cell.{Cell}
use Rattle.agg_types.specs.declared.form.UpdateForm.{UpdateForm}

-- words of 32 bits
abbrev pub AreWords : List ℕ → Type 0
AreWords ws = (k : ℕ) → word ws k < 2 ^ 32

-- so many cells of these kinds fit columns, whatever their words
abbrev pub FitColumns : List (Col × ℕ) → ℕ → ℕ → Type 0
FitColumns cols len kinds =
    (ws : List ℕ) → AreWords ws → cells_fit cols (packed_cells len kinds ws) ≡ true

-- a key of the form's length and cells of its kinds, whatever their words, fit the table at a
-- position
abbrev pub IsFormAt : List Shape → ℕ → UpdateForm → Type 0
IsFormAt tables table form = (key ws : List ℕ) → allows form.length (length key) ≡ true
    → AreWords ws → row_fits tables table key (packed_cells form.len form.kinds ws) ≡ true

-- a key and cells fit every table that has the form
abbrev pub FitAllOf : UpdateForm → List ℕ → List Cell → Type 0
FitAllOf form key cells = (tables : List Shape) (table : ℕ) → IsFormAt tables table form
    → row_fits tables table key cells ≡ true
