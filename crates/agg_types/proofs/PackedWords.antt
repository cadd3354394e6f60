-- Cells that are packed in words, as one is added and as they are read.
use Rattle.std.proofs.Common.{◌≡◌, ℕ, zero, suc, ◌+◌, ◌-◌, ◌*◌, ◌/◌, ◌%◌, ◌^◌, ◌<◌, ◌≤◌, List, []}
use Rattle.std.proofs.Common.{◌∷◌, ◌++◌, length, true, false, Bool, refl, sym, ◌∙◌, ap, arith}
use Rattle.std.proofs.Common.{◌≢◌, Some, None, drop, slice_get, ◌==◌, get_or, take, add-zero}
use Rattle.std.proofs.Common.{add-one, length-append}
use Rattle.std.proofs.lemmas.Bool.{lt-ltb}
use Rattle.std.proofs.lemmas.List.{take_more}
use Rattle.std.proofs.Math.Dec.{eqb-suc-zero}
use Rattle.std.proofs.Math.Seq.{take-length}
use Rattle.std.proofs.lemmas.Option.{slice_get_within}
use Rattle.std.specs.Prelude.{◌⊎◌, ◌&&◌, nat_lt, if◌then◌else◌, IfSome, Option}
use Rattle.agg_types.proofs.Fitting.{kinds-pushed}
use Rattle.agg_types.proofs.Lists.{get-last, get-others, left-at, none-left}
use Rattle.agg_types.specs.Col.{is_rate, is_wide}
use Rattle.agg_types.specs.Fits.{cell_fits, cells_fit}
use Rattle.agg_types.specs.Form.{AreWords, FitColumns}
use Rattle.agg_types.specs.Packed.{AreKinds, ArePacked, cell_at, packed_cells, total_width, width}
use Rattle.agg_types.specs.declared.column.Col.{Col}
use Rattle.agg_types.specs.declared.event.Cell.{Cell}

-- ---- one cell more
-- a cell is what its own words say
cell_at-same : (kind : ℕ) (words more : List ℕ) (at : ℕ)
    → ((k : ℕ) → k < at + width kind → get_or more k 0 ≡ get_or words k 0)
    → cell_at kind more at ≡ cell_at kind words at
cell_at-same zero words more at same = rw (same at (omega arith)) refl
cell_at-same (suc n) words more at same = rw (
  same at (omega arith),
  same (at + 1) (omega arith),
) refl

-- the words of a cell say it wherever they stand
cell_at-moved : (kind : ℕ) (words own : List ℕ) (at : ℕ)
    → ((k : ℕ) → k < width kind → get_or words (at + k) 0 ≡ get_or own k 0)
    → cell_at kind words at ≡ cell_at kind own 0
cell_at-moved zero words own at same = let first : get_or words at 0 ≡ get_or own 0 0 =
    ap (λ n. get_or words n 0) (sym (add-zero at)) ∙ same 0 (omega arith) in
    rw first refl
cell_at-moved (suc n) words own at same = let first : get_or words at 0 ≡ get_or own 0 0 =
    ap (λ n. get_or words n 0) (sym (add-zero at)) ∙ same 0 (omega arith) in
    rw (first, same 1 (omega arith)) refl

cells-same : (len kinds : ℕ) (words more : List ℕ)
    → ((k : ℕ) → k < total_width len kinds → get_or more k 0 ≡ get_or words k 0)
    → packed_cells len kinds more ≡ packed_cells len kinds words
cells-same zero kinds words more same = refl
cells-same (suc len) kinds words more same =
    rw (
      cells-same len (kinds / 4) words more (λ k below. same k (omega (arith, below))),
      cell_at-same (kinds % 4) words more (total_width len (kinds / 4))
          (λ k below. same k below),
    ) refl

pub cells-pushed : (len kinds later digit used : ℕ) (words more own : List ℕ)
    → later ≡ kinds * 4 + digit → digit < 4 → used ≡ total_width len kinds
    → length own ≡ width digit
    → ((k : ℕ) → k < length own → get_or more (used + k) 0 ≡ get_or own k 0)
    → ((k : ℕ) → k < used → get_or more k 0 ≡ get_or words k 0)
    → packed_cells (len + 1) later more ≡ packed_cells len kinds words ++ cell_at digit own 0 ∷ []
cells-pushed len kinds later digit used words more own is small start long here before =
    let others : later / 4 ≡ kinds = omega (arith, is, small) in
    let last : later % 4 ≡ digit = omega (arith, is, small) in
    let same : packed_cells len kinds more ≡ packed_cells len kinds words =
    cells-same len kinds words more (λ k below. before k (rw start below)) in
    let cell : cell_at digit more (total_width len kinds) ≡ cell_at digit own 0 =
    cell_at-moved digit more own (total_width len kinds)
    (λ k below. rw (← start) (here k (rw long below))) in
    rw (add-one, others, last, same, cell) refl

-- a digit is that of a count or of a rate
pub digit-small : (digit : ℕ) → AreKinds 1 digit → digit < 4 → (digit ≡ 0) ⊎ (digit ≡ 3)
digit-small digit kinds small = let same : digit % 4 ≡ digit = omega (arith, small) in
    rw (← same) kinds.0

pub width-some : (digit : ℕ) → 0 < width digit
width-some zero = omega arith
width-some (suc n) = omega arith

pub are-pushed : (len used kinds later digit own : ℕ) → ArePacked len used kinds
    → later ≡ kinds * 4 + digit → digit < 4 → AreKinds 1 digit → own ≡ width digit → used + own ≤ 7
    → ArePacked (len + 1) (used + own) later
are-pushed len used kinds later digit own are is small digits long room =
    let others : later / 4 ≡ kinds = omega (arith, is, small) in
    let last : later % 4 ≡ digit = omega (arith, is, small) in
    let same : digit % 4 ≡ digit = omega (arith, small) in
    record {
      width = rw (add-one, others, last, are.width, long) refl;
      least = omega (arith, are.least, long, width-some digit);
      most = room;
      few = rw is (kinds-pushed len kinds digit are.few small);
      digits = rw (add-one, others, last) ((rw (← same) digits.0), are.digits);
    }

-- ---- cells as they are read
-- the first cells and the last
pub cells-last : (len kinds : ℕ) (words : List ℕ) → 0 < len
    → packed_cells len kinds words ≡ packed_cells (len - 1) (kinds / 4) words
    ++ cell_at (kinds % 4) words (total_width (len - 1) (kinds / 4)) ∷ []
cells-last zero kinds words some = absurd (omega (arith, some))
cells-last (suc len) kinds words some = let same : suc len - 1 ≡ len = omega arith in rw same refl

pub total-last : (len kinds : ℕ) → 0 < len
    → total_width len kinds ≡ total_width (len - 1) (kinds / 4) + width (kinds % 4)
total-last zero kinds some = absurd (omega (arith, some))
total-last (suc len) kinds some = let same : suc len - 1 ≡ len = omega arith in rw same refl

pub length-cells : (len kinds : ℕ) (words : List ℕ) → length (packed_cells len kinds words) ≡ len
length-cells zero kinds words = refl
length-cells (suc len) kinds words =
    length-append (packed_cells len (kinds / 4) words) _
    ∙ (rw (length-cells len (kinds / 4) words) (omega arith))

-- the cell of a column: the last, and any other
pub packed-last : (len kinds : ℕ) (words : List ℕ) → 0 < len
    → slice_get (packed_cells len kinds words) (len - 1)
    ≡ Some (cell_at (kinds % 4) words (total_width (len - 1) (kinds / 4)))
packed-last len kinds words some =
    let before = packed_cells (len - 1) (kinds / 4) words in
    let last = cell_at (kinds % 4) words (total_width (len - 1) (kinds / 4)) in
    let place : length before ≡ len - 1 = length-cells (len - 1) (kinds / 4) words in
    rw (cells-last len kinds words some)
    (ap (λ n. slice_get (before ++ last ∷ []) n) (sym place) ∙ get-last before last)

pub packed-others : (len kinds : ℕ) (words : List ℕ) (col : ℕ) → 0 < len → col ≢ len - 1
    → slice_get (packed_cells len kinds words) col
    ≡ slice_get (packed_cells (len - 1) (kinds / 4) words) col
packed-others len kinds words col some apart =
    let before = packed_cells (len - 1) (kinds / 4) words in
    let place : length before ≡ len - 1 = length-cells (len - 1) (kinds / 4) words in
    rw (cells-last len kinds words some)
    (get-others before _ col (λ same. apart (same ∙ place)))

-- there are few
pub few-packed : (len used kinds : ℕ) (words : List ℕ) (col : ℕ) (found : Option Cell)
    → ArePacked len used kinds → found ≡ slice_get (packed_cells len kinds words) col
    → IfSome found (λ _. col < 7)
few-packed len used kinds words col None are is = tt
few-packed len used kinds words col (Some cell) are is =
    let within = slice_get_within (packed_cells len kinds words) col cell (sym is) in
    omega (arith, within, length-cells len kinds words, are.least, are.most)

-- ---- cells of columns
-- where no cell is left
pub fit-none : (cols : List (Col × ℕ)) (cells : List Cell) (from : ℕ)
    → slice_get cells from ≡ None → cells_fit cols (drop from cells) ≡ (length cols == 0)
fit-none [] cells from none = rw (none-left cells from none) refl
fit-none (col ∷ cols) cells from none =
    rw (none-left cells from none) (sym (eqb-suc-zero (length cols)))

-- where one is left, beside no column, and beside the first of some
pub fit-over : (cols : List (Col × ℕ)) (cells : List Cell) (from : ℕ) (cell : Cell)
    → slice_get cells from ≡ Some cell → length cols < 1
    → cells_fit cols (drop from cells) ≡ false
fit-over [] cells from cell is none = rw (left-at cells from cell is) refl
fit-over (col ∷ cols) cells from cell is none = absurd (omega (arith, none))

pub fit-next : (cols : List (Col × ℕ)) (cells : List Cell) (from : ℕ) (cell : Cell)
    (d : Col × ℕ) → slice_get cells from ≡ Some cell → 1 ≤ length cols
    → cells_fit cols (drop from cells) ≡ cell_fits (get_or cols 0 d).0 cell
    && cells_fit (take (length cols - 1) (drop 1 cols)) (drop (from + 1) cells)
fit-next [] cells from cell d is some = absurd (omega (arith, some))
fit-next (col ∷ cols) cells from cell d is some =
    let long : suc (length cols) - 1 ≡ length cols = omega arith in
    rw (left-at cells from cell is, add-one, long, take-length cols) refl

both-and : (first rest more : Bool) → first && rest ≡ true → (rest ≡ true → more ≡ true)
    → first && more ≡ true
both-and true rest more both leads = leads both
both-and false rest more both leads = cc

-- a last cell fits a last column beside others that fit theirs
fit-behind : (cols : List (Col × ℕ)) (cells : List Cell) (col : Col × ℕ) (cell : Cell)
    → cells_fit cols cells ≡ true → cell_fits col.0 cell ≡ true
    → cells_fit (cols ++ col ∷ []) (cells ++ cell ∷ []) ≡ true
fit-behind [] [] col cell others fits = rw fits refl
fit-behind [] (c ∷ cells) col cell others fits = cc
fit-behind (x ∷ cols) [] col cell others fits = cc
fit-behind (x ∷ cols) (c ∷ cells) col cell others fits =
    both-and (cell_fits x.0 c) _ _ others (λ o. fit-behind cols cells col cell o fits)

-- so a column's cell does by its digit
count-fits : (wide : Bool) (n : ℕ) → n < 2 ^ 32
    → nat_lt n (if wide then 2 ^ 64 else 2 ^ 32) ≡ true
count-fits true n small = lt-ltb n (2 ^ 64) (omega (arith, small))
count-fits false n small = lt-ltb n (2 ^ 32) small

digit-fits : (col : Col × ℕ) (rate : Bool) (words : List ℕ) (at : ℕ) → is_rate col.0 ≡ rate
    → AreWords words → cell_fits col.0 (cell_at (if rate then 3 else 0) words at) ≡ true
digit-fits col true words at is are = rw is refl
digit-fits col false words at is are = rw is (count-fits (is_wide col.0) _ (are at))

digit-least : (rate : Bool) → (if rate then 3 else 0) < 4
digit-least true = omega arith
digit-least false = omega arith

columns-pushed : (cols : List (Col × ℕ)) (col : Col × ℕ) (len kinds digit : ℕ)
    → FitColumns cols len kinds → digit ≡ (if is_rate col.0 then 3 else 0)
    → FitColumns (cols ++ col ∷ []) (len + 1) (kinds * 4 + digit)
columns-pushed cols col len kinds digit fit is = λ ws are.
    let small : digit < 4 = rw is (digit-least (is_rate col.0)) in
    let others : (kinds * 4 + digit) / 4 ≡ kinds = omega (arith, small) in
    let last : (kinds * 4 + digit) % 4 ≡ digit = omega (arith, small) in
    let fits : cell_fits col.0 (cell_at digit ws (total_width len kinds)) ≡ true =
    rw is (digit-fits col (is_rate col.0) ws (total_width len kinds) refl are) in
    rw (add-one, others, last) (fit-behind cols _ col _ (fit ws are) fits)

pub columns-taken : (cols : List (Col × ℕ)) (at len more kinds later digit : ℕ) (d : Col × ℕ)
    → digit ≡ (if is_rate (get_or cols at d).0 then 3 else 0) → at < length cols
    → more ≡ len + 1 → later ≡ kinds * 4
    → FitColumns (take at cols) len kinds → FitColumns (take (at + 1) cols) more (later + digit)
columns-taken cols at len more kinds later digit d is below one four fit =
    rw (one, four, take_more cols at d below)
    (columns-pushed (take at cols) (get_or cols at d) len kinds digit fit is)
