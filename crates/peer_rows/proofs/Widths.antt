-- Cells whose words stand one behind the other, as one is added and as they are read.
use Rattle.std.proofs.Common.{◌≡◌, ◌≢◌, ℕ, zero, suc, ◌+◌, ◌-◌, ◌*◌}
use Rattle.std.proofs.Common.{◌/◌, ◌%◌, ◌<◌, ◌≤◌, List, [], ◌∷◌}
use Rattle.std.proofs.Common.{◌++◌, length, refl, sym, ◌∙◌, ap}
use Rattle.std.proofs.Common.{arith, get_or, take, add-zero, add-one}
use Rattle.std.proofs.Common.{length-append}
use Rattle.std.specs.Prelude.{Some, None, map, slice_get}
use Rattle.std.proofs.lemmas.List.{map-append}
use Rattle.agg_types.proofs.Lists.{get-last, get-others}
use Rattle.peer_rows.specs.declared.row.Held.{Held}
use Rattle.peer_rows.specs.Few.{cell_at, cells_of, kind_of, total_width, width}
use Rattle.peer_rows.specs.declared.few.Kind.{Kind}
use Rattle.peer_rows.specs.declared.few.Kind.TheVariants.{Small, Large, Rated, Narrow}
use Rattle.peer_rows.specs.declared.packed.Packed.{Packed}
use Rattle.peer_rows.specs.Packed.{held_of}

-- a cell is what its own words say
cell_at-same : (kind : Kind) (words more : List ℕ) (at : ℕ)
    → ((k : ℕ) → k < at + width kind → get_or more k 0 ≡ get_or words k 0)
    → cell_at kind more at ≡ cell_at kind words at
cell_at-same Small words more at same = rw (same at (omega arith)) refl
cell_at-same Large words more at same = rw (same at (omega arith), same (at + 1) (omega arith)) refl
cell_at-same Rated words more at same = rw (
  same at (omega arith),
  same (at + 1) (omega arith),
  same (at + 2) (omega arith),
  same (at + 3) (omega arith),
  same (at + 4) (omega arith),
) refl
cell_at-same Narrow words more at same = rw (
  same at (omega arith),
  same (at + 1) (omega arith),
  same (at + 2) (omega arith),
) refl

-- the words of a cell say it wherever they stand
cell_at-moved : (kind : Kind) (words own : List ℕ) (at : ℕ)
    → ((k : ℕ) → k < width kind → get_or words (at + k) 0 ≡ get_or own k 0)
    → cell_at kind words at ≡ cell_at kind own 0
cell_at-moved Small words own at same = let first : get_or words at 0 ≡ get_or own 0 0 =
    ap (λ n. get_or words n 0) (sym (add-zero at)) ∙ same 0 (omega arith) in
    rw first refl
cell_at-moved Large words own at same = let first : get_or words at 0 ≡ get_or own 0 0 =
    ap (λ n. get_or words n 0) (sym (add-zero at)) ∙ same 0 (omega arith) in
    rw (first, same 1 (omega arith)) refl
cell_at-moved Rated words own at same = let first : get_or words at 0 ≡ get_or own 0 0 =
    ap (λ n. get_or words n 0) (sym (add-zero at)) ∙ same 0 (omega arith) in
    rw (
      first,
      same 1 (omega arith),
      same 2 (omega arith),
      same 3 (omega arith),
      same 4 (omega arith),
    ) refl
cell_at-moved Narrow words own at same = let first : get_or words at 0 ≡ get_or own 0 0 =
    ap (λ n. get_or words n 0) (sym (add-zero at)) ∙ same 0 (omega arith) in
    rw (first, same 1 (omega arith), same 2 (omega arith)) refl

cells_of-same : (len kinds : ℕ) (words more : List ℕ)
    → ((k : ℕ) → k < total_width len kinds → get_or more k 0 ≡ get_or words k 0)
    → cells_of len kinds more ≡ cells_of len kinds words
cells_of-same zero kinds words more same = refl
cells_of-same (suc len) kinds words more same =
    rw (
      cells_of-same len (kinds / 4) words more (λ k below. same k (omega (arith, below))),
      cell_at-same (kind_of (kinds % 4)) words more (total_width len (kinds / 4))
          (λ k below. same k below),
    ) refl

pub length-cells_of : (len kinds : ℕ) (words : List ℕ) → length (cells_of len kinds words) ≡ len
length-cells_of zero kinds words = refl
length-cells_of (suc len) kinds words =
    length-append (cells_of len (kinds / 4) words) _
    ∙ (rw (length-cells_of len (kinds / 4) words) (omega arith))

-- the first cells' words and the last cell's
pub total-last : (len kinds : ℕ) → 0 < len
    → total_width len kinds ≡ total_width (len - 1) (kinds / 4) + width (kind_of (kinds % 4))
total-last zero kinds some = absurd (omega (arith, some))
total-last (suc len) kinds some = let same : suc len - 1 ≡ len = omega arith in rw same refl

-- ---- the cell of a column
pub few-last : (len kinds : ℕ) (words : List ℕ) (col : ℕ) (held : Held) → 0 < len → col ≡ len - 1
    → held ≡ cell_at (kind_of (kinds % 4)) words (total_width (len - 1) (kinds / 4))
    → Some held ≡ slice_get (cells_of len kinds words) col
few-last zero kinds words col held some last is = absurd (omega (arith, some))
few-last (suc len) kinds words col held some last is =
    let same : suc len - 1 ≡ len = omega arith in
    let at : col ≡ length (cells_of len (kinds / 4) words) =
    last ∙ same ∙ sym (length-cells_of len (kinds / 4) words) in
    let own = rw same at is in
    sym (rw (at, own) (get-last (cells_of len (kinds / 4) words) _))

pub few-others : (len kinds : ℕ) (words : List ℕ) (col : ℕ) → 0 < len → col ≢ len - 1
    → slice_get (cells_of (len - 1) (kinds / 4) words) col
    ≡ slice_get (cells_of len kinds words) col
few-others zero kinds words col some apart = absurd (omega (arith, some))
few-others (suc len) kinds words col some apart =
    let same : suc len - 1 ≡ len = omega arith in
    rw same (sym (get-others (cells_of len (kinds / 4) words) _ col
    (λ at. apart (at ∙ length-cells_of len (kinds / 4) words ∙ sym same))))

-- ---- one cell more
pub few-pushed : (len kinds later digit used : ℕ) (words more own : List ℕ) (kind : Kind)
    → later ≡ kinds * 4 + digit → digit < 4 → kind_of digit ≡ kind → used ≡ total_width len kinds
    → length own ≡ width kind
    → ((k : ℕ) → k < length own → get_or more (used + k) 0 ≡ get_or own k 0)
    → ((k : ℕ) → k < used → get_or more k 0 ≡ get_or words k 0)
    → cells_of (len + 1) later more ≡ cells_of len kinds words ++ cell_at kind own 0 ∷ []
few-pushed len kinds later digit used words more own kind is small are start long here before =
    let others : later / 4 ≡ kinds = omega (arith, is, small) in
    let last : later % 4 ≡ digit = omega (arith, is, small) in
    let same : cells_of len kinds more ≡ cells_of len kinds words =
    cells_of-same len kinds words more (λ k below. before k (rw start below)) in
    let cell : cell_at kind more (total_width len kinds) ≡ cell_at kind own 0 =
    cell_at-moved kind more own (total_width len kinds)
    (λ k below. rw (← start) (here k (rw long below))) in
    rw (add-one, others, last, are, same, cell) refl

-- ---- cells that are packed one by one
take-found : (cells : List Held) (col : ℕ) (held : Held) → slice_get cells col ≡ Some held
    → take (suc col) cells ≡ take col cells ++ held ∷ []
take-found [] col held found = cc
take-found (c ∷ cells) zero held found = let same : c ≡ held = cc in rw same refl
take-found (c ∷ cells) (suc col) held found =
    ap (λ rest. c ∷ rest) (take-found cells col held found)

pub packed-more : (items : List Packed) (cell : Packed) (held : Held) (cells : List Held) (col : ℕ)
    → map held_of items ≡ take col cells → held_of cell ≡ held → slice_get cells col ≡ Some held
    → map held_of (items ++ cell ∷ []) ≡ take (col + 1) cells
packed-more items cell held cells col so_far is found =
    rw (
      map-append held_of items (cell ∷ []),
      so_far,
      add-one,
      take-found cells col held found,
      is,
    ) refl

pub past_from_none : (cells : List Held) (col : ℕ) → slice_get cells col ≡ None → length cells ≤ col
past_from_none [] col none = omega arith
past_from_none (c ∷ cells) zero none = cc
past_from_none (c ∷ cells) (suc col) none = omega (arith, past_from_none cells col none)
