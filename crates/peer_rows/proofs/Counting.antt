-- What rows count in a column.
use Rattle.std.proofs.Common.{◌≡◌, ◌∙◌, ℕ, zero, suc, List, [], ◌∷◌, refl, sym, ap}
use Rattle.std.specs.Prelude.{Option, Some, None, slice_get}
use Rattle.peer_rows.specs.declared.row.Held.{Held}
use Rattle.peer_rows.specs.Counted.{counted, counted_at}
use Rattle.peer_rows.specs.Most.{most_at, most_of}

pub counted_at_held : (cells : List Held) (col : ℕ) (held : Held) → slice_get cells col ≡ Some held
    → counted_at cells col ≡ counted held
counted_at_held [] col held found = cc
counted_at_held (c ∷ cells) zero held found = let same : c ≡ held = cc in ap counted same
counted_at_held (c ∷ cells) (suc col) held found = counted_at_held cells col held found

pub counted_at_none : (cells : List Held) (col : ℕ) → slice_get cells col ≡ None
    → counted_at cells col ≡ 0
counted_at_none [] col none = refl
counted_at_none (c ∷ cells) zero none = cc
counted_at_none (c ∷ cells) (suc col) none = counted_at_none cells col none

pub most_at_held : (cells : List Held) (col : ℕ) (held : Held) → slice_get cells col ≡ Some held
    → most_at cells col ≡ most_of held
most_at_held [] col held found = cc
most_at_held (c ∷ cells) zero held found = let same : c ≡ held = cc in ap most_of same
most_at_held (c ∷ cells) (suc col) held found = most_at_held cells col held found

pub most_at_none : (cells : List Held) (col : ℕ) → slice_get cells col ≡ None
    → most_at cells col ≡ 0
most_at_none [] col none = refl
most_at_none (c ∷ cells) zero none = cc
most_at_none (c ∷ cells) (suc col) none = most_at_none cells col none

pub most_at_last : (cells : List Held) (col : ℕ) (held : Held) → Some held ≡ slice_get cells col
    → most_of held ≡ most_at cells col
most_at_last cells col held is = sym (most_at_held cells col held (sym is))

-- what a cell is worth at most that there may be
abbrev worth_of : Option Held → ℕ
worth_of None = 0
worth_of (Some held) = most_of held

most_at_got : (cells : List Held) (col : ℕ) → most_at cells col ≡ worth_of (slice_get cells col)
most_at_got [] col = refl
most_at_got (c ∷ cells) zero = refl
most_at_got (c ∷ cells) (suc col) = most_at_got cells col

pub most_at_same : (few more : List Held) (col : ℕ) → slice_get few col ≡ slice_get more col
    → most_at few col ≡ most_at more col
most_at_same few more col same =
    most_at_got few col ∙ ap worth_of same ∙ sym (most_at_got more col)
