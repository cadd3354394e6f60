-- Cells of an update in words of 32 bits, one cell behind the other.
use Rattle.std.specs.Prelude.{◌≡◌, ℕ, zero, suc, ◌+◌, ◌/◌, ◌%◌, ◌^◌, ◌<◌, ◌≤◌, ◌&&◌, Bool}
use Rattle.std.specs.Prelude.{List, [], ◌∷◌, ◌++◌, ◌⊎◌, nat_lt, slice_index as word}
use Rattle.std.specs.List.{list_all, sum_by}
use Rattle.agg_types.specs.declared.event.Cell.{Cell}
use Rattle.agg_types.specs.declared.event.Cell.TheVariants.{Count, Rate}

-- how many words a cell takes, by the digit of its kind: a count one, a rate three
abbrev pub width : ℕ → ℕ
width zero = 1
width (suc n) = 3

-- the cell of a kind whose words begin at a place: of a rate the first has both counts, the second
-- the elapsed time, and the third nothing
abbrev pub cell_at : ℕ → List ℕ → ℕ → Cell
cell_at zero ws at = Count (word ws at)
cell_at (suc n) ws at = Rate (word ws (at + 1)) (word ws at % 2 ^ 16) (word ws at / 2 ^ 16)

-- how many words so many cells take. Their kinds are the digits of a number to the base of four,
-- the last cell's the least digit.
abbrev pub total_width : ℕ → ℕ → ℕ
total_width zero kinds = 0
total_width (suc len) kinds = total_width len (kinds / 4) + width (kinds % 4)

-- so many cells, whose words stand one behind the other
abbrev pub packed_cells : ℕ → ℕ → List ℕ → List Cell
packed_cells zero kinds ws = []
packed_cells (suc len) kinds ws =
    packed_cells len (kinds / 4) ws ++ cell_at (kinds % 4) ws (total_width len (kinds / 4)) ∷ []

-- how many words a cell takes
abbrev pub cell_width : Cell → ℕ
cell_width (Count count) = 1
cell_width (Rate elapsed cur prev) = 3

-- whether the numbers of a cell fit in these
abbrev pub is_narrow : Cell → Bool
is_narrow (Count count) = nat_lt count (2 ^ 32)
is_narrow (Rate elapsed cur prev) =
    nat_lt elapsed (2 ^ 32) && nat_lt cur (2 ^ 16) && nat_lt prev (2 ^ 16)

-- whether cells fit in seven words
abbrev pub fit_words : List Cell → Bool
fit_words cells = list_all is_narrow cells && nat_lt (sum_by cell_width cells) 8

-- the digits say counts, by 0, and rates, by 3
abbrev pub AreKinds : ℕ → ℕ → Type 0
AreKinds zero kinds = Unit {0}
AreKinds (suc len) kinds = ((kinds % 4 ≡ 0) ⊎ (kinds % 4 ≡ 3)) × AreKinds len (kinds / 4)

-- so many cells of these kinds take so many words, of which there are seven
pub record ArePacked (len used kinds : ℕ) : Type 0 where
  pub width : used ≡ total_width len kinds
  pub least : len ≤ used
  pub most : used ≤ 7
  pub few : kinds < 4 ^ len
  pub digits : AreKinds len kinds
