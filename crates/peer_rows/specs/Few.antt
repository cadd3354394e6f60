use Rattle.std.specs.Prelude.{◌≡◌, ℕ, zero, suc, ◌+◌, ◌*◌, ◌/◌, ◌%◌, ◌^◌, ◌≤◌, List, [], ◌∷◌}
use Rattle.std.specs.Prelude.{◌++◌}
use Rattle.std.specs.Prelude.{slice_index as word}
use Rattle.period_rate.specs.Words.{rate_of}
use Rattle.peer_rows.specs.declared.few.Kind.{Kind}
use Rattle.peer_rows.specs.declared.few.Kind.TheVariants.{Small, Large, Rated, Narrow}
use Rattle.peer_rows.specs.declared.row.Held.{Held}
use Rattle.peer_rows.specs.declared.row.Held.TheVariants.{Count, Rate}

-- the kind of a cell by its digit
abbrev pub kind_of : ℕ → Kind
kind_of zero = Small
kind_of (suc zero) = Large
kind_of (suc (suc zero)) = Rated
kind_of (suc (suc (suc n))) = Narrow

-- how many words a cell takes
abbrev pub width : Kind → ℕ
width Small = 1
width Large = 2
width Rated = 5
width Narrow = 3

-- how many words so many cells take. Their kinds are the digits of a number to the base of four,
-- the last cell's the least digit.
abbrev pub total_width : ℕ → ℕ → ℕ
total_width zero kinds = 0
total_width (suc len) kinds = total_width len (kinds / 4) + width (kind_of (kinds % 4))

-- the five words from a place on
abbrev pub five_from : List ℕ → ℕ → List ℕ
five_from ws at =
    word ws at ∷ word ws (at + 1) ∷ word ws (at + 2) ∷ word ws (at + 3)
    ∷ word ws (at + 4) ∷ []

-- the five words of a rate that three stand for: its two counts share one word, the high half of
-- the moment from which it is 0 and its period another
abbrev pub widened : ℕ → ℕ → ℕ → List ℕ
widened counts low rest =
    rest / 2 ^ 8 ∷ low ∷ rest % 2 ^ 8 ∷ counts % 2 ^ 16 ∷ counts / 2 ^ 16 ∷ []

-- the cell of a kind whose words begin at a place
abbrev pub cell_at : Kind → List ℕ → ℕ → Held
cell_at Small ws at = Count (word ws at)
cell_at Large ws at = Count (word ws at + 2 ^ 32 * word ws (at + 1))
cell_at Rated ws at = Rate (rate_of (five_from ws at))
cell_at Narrow ws at = Rate (rate_of (widened (word ws at) (word ws (at + 1)) (word ws (at + 2))))

-- so many cells, whose words stand one behind the other
abbrev pub cells_of : ℕ → ℕ → List ℕ → List Held
cells_of zero kinds words = []
cells_of (suc len) kinds words =
    cells_of len (kinds / 4) words
    ++ cell_at (kind_of (kinds % 4)) words (total_width len (kinds / 4)) ∷ []

-- so many cells take so many words, of which there are seven
pub record AreLaid (len used kinds : ℕ) : Type 0 where
  pub width : used ≡ total_width len kinds
  pub least : len ≤ used
  pub most : used ≤ 7
