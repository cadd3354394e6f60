-- Which cells fit in the words of a batch.
use Rattle.std.proofs.Common.{◌≡◌, ℕ, zero, suc, ◌+◌, ◌-◌, ◌*◌, ◌/◌, ◌%◌, ◌^◌, ◌<◌, ◌≤◌, List}
use Rattle.std.proofs.Common.{[], ◌∷◌, ◌++◌, true, refl, ◌∙◌, subst, arith, add-one}
use Rattle.std.proofs.lemmas.Bool.{lt-ltb}
use Rattle.std.proofs.lemmas.List.Folds.{list_all-append}
use Rattle.std.proofs.lemmas.List.Sums.{sum_by-append}
use Rattle.std.proofs.Math.Nat.{pow-succ'}
use Rattle.std.specs.List.{list_all, sum_by}
use Rattle.std.specs.Prelude.{nat_lt, slice_index}
use Rattle.agg_types.specs.Form.{AreWords}
use Rattle.agg_types.specs.Packed.{ArePacked, cell_at, cell_width, fit_words, is_narrow}
use Rattle.agg_types.specs.Packed.{packed_cells, total_width, width}

-- ---- cells that lie in words
at-narrow : (digit : ℕ) (words : List ℕ) (at : ℕ) → AreWords words
    → is_narrow (cell_at digit words at) ≡ true
at-narrow zero words at are = lt-ltb _ (2 ^ 32) (are at)
at-narrow (suc n) words at are =
    let first = slice_index words at in
    let cur : first % 2 ^ 16 < 2 ^ 16 = omega arith in
    let prev : first / 2 ^ 16 < 2 ^ 16 = omega (arith, are at) in
    rw (
      lt-ltb _ (2 ^ 32) (are (at + 1)),
      lt-ltb _ (2 ^ 16) cur,
      lt-ltb _ (2 ^ 16) prev,
    ) refl

at-width : (digit : ℕ) (words : List ℕ) (at : ℕ)
    → cell_width (cell_at digit words at) ≡ width digit
at-width zero words at = refl
at-width (suc n) words at = refl

packed-narrow : (len kinds : ℕ) (words : List ℕ) → AreWords words
    → list_all is_narrow (packed_cells len kinds words) ≡ true
packed-narrow zero kinds words are = refl
packed-narrow (suc len) kinds words are =
    list_all-append is_narrow (packed_cells len (kinds / 4) words) _
    ∙ rw (
      packed-narrow len (kinds / 4) words are,
      at-narrow (kinds % 4) words (total_width len (kinds / 4)) are,
    ) refl

packed-width : (len kinds : ℕ) (words : List ℕ)
    → sum_by cell_width (packed_cells len kinds words) ≡ total_width len kinds
packed-width zero kinds words = refl
packed-width (suc len) kinds words =
    sum_by-append cell_width (packed_cells len (kinds / 4) words) _
    ∙ rw (
      packed-width len (kinds / 4) words,
      at-width (kinds % 4) words (total_width len (kinds / 4)),
    ) (omega arith)

-- ---- one behind others
-- a cell that lies in words of its own fits where there is room
pub fit-room : (len kinds used digit : ℕ) (words own : List ℕ) → AreWords words → AreWords own
    → used ≡ total_width len kinds
    → fit_words (packed_cells len kinds words ++ cell_at digit own 0 ∷ [])
    ≡ nat_lt (used + width digit) 8
fit-room len kinds used digit words own are own_are is =
    let cells = packed_cells len kinds words in
    let cell = cell_at digit own 0 in
    let wide : sum_by cell_width (cells ++ cell ∷ []) ≡ used + width digit =
    sum_by-append cell_width cells (cell ∷ []) ∙ rw (
      packed-width len kinds words,
      at-width digit own 0,
      ← is,
    ) (omega arith) in
    rw (
      list_all-append is_narrow cells (cell ∷ []),
      packed-narrow len kinds words are,
      at-narrow digit own 0 own_are,
      wide,
    ) refl

-- ---- the digits of few cells are small
pow-fewer : (len more : ℕ) → 4 ^ len ≤ 4 ^ (len + more)
pow-fewer len zero = let same : len + zero ≡ len = omega arith in rw same (omega arith)
pow-fewer len (suc more) =
    let same : len + suc more ≡ suc (len + more) = omega arith in
    let next : 4 ^ suc (len + more) ≡ 4 * 4 ^ (len + more) = pow-succ' 4 (len + more) in
    rw same (omega (arith, next, pow-fewer len more))

pub kinds-few : (len used kinds own : ℕ) → ArePacked len used kinds → 0 < own → used + own ≤ 7
    → kinds < 4096
kinds-few len used kinds own are some room =
    let short : len ≤ 6 = omega (arith, are.least, some, room) in
    let six : len + (6 - len) ≡ 6 = omega (arith, short) in
    let least : 4 ^ len ≤ 4 ^ (len + (6 - len)) = pow-fewer len (6 - len) in
    let most : 4 ^ len ≤ 4096 = subst (λ n. 4 ^ len ≤ 4 ^ n) six least in
    omega (arith, are.few, most)

pub kinds-pushed : (len kinds digit : ℕ) → kinds < 4 ^ len → digit < 4
    → kinds * 4 + digit < 4 ^ (len + 1)
kinds-pushed len kinds digit few small =
    let more : 4 ^ suc len ≡ 4 * 4 ^ len = pow-succ' 4 len in
    rw add-one (omega (arith, few, small, more))
