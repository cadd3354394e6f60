-- Words of an update's cells that become those of a row's.
use Rattle.std.proofs.Common.{◌≡◌, ◌≢◌, ℕ, zero, suc, ◌+◌, ◌-◌, ◌/◌, ◌%◌, ◌<◌, ◌≤◌}
use Rattle.std.proofs.Common.{List, [], ◌∷◌, ◌++◌, length, refl, sym, ◌∙◌, ap, inl, inr}
use Rattle.std.proofs.Common.{◌⊎◌, arith, get_or, take, length-append}
use Rattle.agg_types.specs.declared.column.Col.{Col}
use Rattle.agg_types.specs.declared.column.Col.TheVariants.{Gpc0}
use Rattle.agg_types.specs.declared.event.Cell.{Cell}
use Rattle.agg_types.specs.Packed.{AreKinds, packed_cells}
use Rattle.agg_types.specs.Packed.{cell_at as packed_cell, total_width as packed_width}
use Rattle.agg_types.specs.Packed as packed
use Rattle.peer_rows.specs.Arriving.{arriving, arriving_cell}
use Rattle.peer_rows.specs.Few.{cell_at, cells_of, kind_of, total_width}
use Rattle.peer_rows.specs.Few as few
use Rattle.peer_rows.specs.declared.few.Kind.TheVariants.{Narrow}

-- ---- digits that say counts and rates say as many words in a row
last_width : (kinds : ℕ) → (kinds ≡ 0) ⊎ (kinds ≡ 3)
    → packed.width kinds ≡ few.width (kind_of kinds)
last_width kinds (inl none) = rw none refl
last_width kinds (inr rate) = rw rate refl

pub width-same : (len kinds : ℕ) → AreKinds len kinds
    → packed_width len kinds ≡ total_width len kinds
width-same zero kinds are = refl
width-same (suc len) kinds are =
    rw (width-same len (kinds / 4) are.1, last_width (kinds % 4) are.0) refl

-- ---- cells are what their own words say
packed_cell-same : (kind : ℕ) (words more : List ℕ) (at : ℕ)
    → ((k : ℕ) → k < at + packed.width kind → get_or more k 0 ≡ get_or words k 0)
    → packed_cell kind more at ≡ packed_cell kind words at
packed_cell-same zero words more at same = rw (same at (omega arith)) refl
packed_cell-same (suc n) words more at same =
    rw (same at (omega arith), same (at + 1) (omega arith)) refl

packed-same : (len kinds : ℕ) (words more : List ℕ)
    → ((k : ℕ) → k < packed_width len kinds → get_or more k 0 ≡ get_or words k 0)
    → packed_cells len kinds more ≡ packed_cells len kinds words
packed-same zero kinds words more same = refl
packed-same (suc len) kinds words more same =
    rw (
      packed-same len (kinds / 4) words more (λ k below. same k (omega (arith, below))),
      packed_cell-same (kinds % 4) words more (packed_width len (kinds / 4))
          (λ k below. same k below),
    ) refl

length-packed : (len kinds : ℕ) (words : List ℕ) → length (packed_cells len kinds words) ≡ len
length-packed zero kinds words = refl
length-packed (suc len) kinds words =
    length-append (packed_cells len (kinds / 4) words) _
    ∙ (rw (length-packed len (kinds / 4) words) (omega arith))

-- ---- a cell more
arriving-more : (t : ℕ) (cols : List (Col × ℕ)) (cells : List Cell) (cell : Cell) (d : Col × ℕ)
    (n : ℕ) → n ≡ length cells → n < length cols
    → arriving t (take (suc n) cols) (cells ++ cell ∷ [])
    ≡ arriving t (take n cols) cells ++ arriving_cell t (get_or cols n d).1 cell ∷ []
arriving-more t [] cells cell d n is within = absurd (omega (arith, within))
arriving-more t (c ∷ cols) [] cell d zero is within = refl
arriving-more t (c ∷ cols) [] cell d (suc n) is within = absurd (omega (arith, is))
arriving-more t (c ∷ cols) (x ∷ cells) cell d zero is within = absurd (omega (arith, is))
arriving-more t (c ∷ cols) (x ∷ cells) cell d (suc n) is within =
    ap (λ rest. arriving_cell t c.1 x ∷ rest)
    (arriving-more t cols cells cell d n (omega (arith, is)) (omega (arith, within)))

dated-more : (before kinds t : ℕ) (cols : List (Col × ℕ)) (old mid new : List ℕ) (d : Col × ℕ)
    → AreKinds (suc before) kinds → before < length cols
    → cells_of before (kinds / 4) new
    ≡ arriving t (take before cols) (packed_cells before (kinds / 4) mid)
    → ((k : ℕ) → k < packed_width before (kinds / 4) → get_or mid k 0 ≡ get_or old k 0)
    → cell_at (kind_of (kinds % 4)) new (packed_width before (kinds / 4))
    ≡ arriving_cell t (get_or cols before d).1
    (packed_cell (kinds % 4) old (packed_width before (kinds / 4)))
    → cells_of (suc before) kinds new
    ≡ arriving t (take (suc before) cols) (packed_cells (suc before) kinds old)
dated-more before kinds t cols old mid new d are within cells same last =
    let start = packed-same before (kinds / 4) old mid same in
    rw (
      ← width-same before (kinds / 4) are.1,
      last,
      cells,
      start,
      arriving-more t cols (packed_cells before (kinds / 4) old)
          (packed_cell (kinds % 4) old (packed_width before (kinds / 4))) d before
          (sym (length-packed before (kinds / 4) old)) within,
    ) refl

-- a count stays as it is
pub dated-count : (len kinds end t : ℕ) (cols : List (Col × ℕ)) (old new : List ℕ)
    → 0 < len → kinds % 4 ≡ 0 → AreKinds len kinds → end ≡ packed_width len kinds
    → len ≤ length cols
    → cells_of (len - 1) (kinds / 4) new
    ≡ arriving t (take (len - 1) cols) (packed_cells (len - 1) (kinds / 4) old)
    → ((k : ℕ) → end - 1 ≤ k → get_or new k 0 ≡ get_or old k 0)
    → cells_of len kinds new ≡ arriving t (take len cols) (packed_cells len kinds old)
dated-count zero kinds end t cols old new some count are is within cells behind =
    absurd (omega (arith, some))
dated-count (suc before) kinds end t cols old new some count are is within cells behind =
    let same : suc before - 1 ≡ before = omega arith in
    let at : end ≡ packed_width before (kinds / 4) + 1 = rw count at is in
    let last : get_or new (packed_width before (kinds / 4)) 0
    ≡ get_or old (packed_width before (kinds / 4)) 0 = behind _ (omega (arith, at)) in
    dated-more before kinds t cols old old new (Gpc0, 0) are (omega (arith, within))
    (rw same at cells) (λ k below. refl) (rw (count, last) refl)

-- a rate is dated
narrow-same : (words more : List ℕ) (at : ℕ)
    → ((k : ℕ) → at ≤ k → get_or more k 0 ≡ get_or words k 0)
    → cell_at Narrow more at ≡ cell_at Narrow words at
narrow-same words more at same = rw (
  same at (omega arith),
  same (at + 1) (omega arith),
  same (at + 2) (omega arith),
) refl

rate_digit : (digit : ℕ) → (digit ≡ 0) ⊎ (digit ≡ 3) → digit ≢ 0 → digit ≡ 3
rate_digit digit (inl none) some = absurd (some none)
rate_digit digit (inr rate) some = rate

pub rate-long : (len kinds end : ℕ) → 0 < len → kinds % 4 ≢ 0 → AreKinds len kinds
    → end ≡ packed_width len kinds → 3 ≤ end
rate-long zero kinds end some rate are is = absurd (omega (arith, some))
rate-long (suc front) kinds end some rate are is =
    let digit : kinds % 4 ≡ 3 = rate_digit (kinds % 4) are.0 rate in
    let long : end ≡ packed_width front (kinds / 4) + 3 = rw digit at is in
    omega (arith, long)

pub dated-rate : (len kinds end t : ℕ) (cols : List (Col × ℕ)) (old mid new : List ℕ)
    (d : Col × ℕ) → 0 < len → kinds % 4 ≢ 0 → AreKinds len kinds → end ≡ packed_width len kinds
    → len ≤ length cols
    → cell_at Narrow mid (end - 3)
    ≡ arriving_cell t (get_or cols (len - 1) d).1 (packed_cell 3 old (end - 3))
    → ((k : ℕ) → k < end - 3 → get_or mid k 0 ≡ get_or old k 0)
    → cells_of (len - 1) (kinds / 4) new
    ≡ arriving t (take (len - 1) cols) (packed_cells (len - 1) (kinds / 4) mid)
    → ((k : ℕ) → end - 3 ≤ k → get_or new k 0 ≡ get_or mid k 0)
    → cells_of len kinds new ≡ arriving t (take len cols) (packed_cells len kinds old)
dated-rate zero kinds end t cols old mid new d some rate are is within cell before cells behind =
    absurd (omega (arith, some))
dated-rate (suc front) kinds end t cols old mid new d some rate are is within cell before cells
    behind =
    let same : suc front - 1 ≡ front = omega arith in
    let digit : kinds % 4 ≡ 3 = rate_digit (kinds % 4) are.0 rate in
    let at : end - 3 ≡ packed_width front (kinds / 4) =
    let long : end ≡ packed_width front (kinds / 4) + 3 = rw digit at is in
    omega (arith, long) in
    let last : cell_at Narrow new (packed_width front (kinds / 4))
    ≡ arriving_cell t (get_or cols front d).1
    (packed_cell 3 old (packed_width front (kinds / 4))) =
    narrow-same mid new _ (rw at at behind) ∙ (rw (at, same) at cell) in
    dated-more front kinds t cols old mid new d are (omega (arith, within)) (rw same at cells)
    (rw at at before) (rw digit last)
