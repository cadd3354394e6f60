-- What was found of a key says of the key's rows, up to the last moment of 64 bits.
use Rattle.std.proofs.Common.{◌≡◌, ℕ, ◌-◌, ◌≤◌, List, Option, Some, None, IfSome, ap, ◌∙◌, arith}
use Rattle.std.proofs.Common.{◌^◌, ◌<◌}
use Rattle.std.specs.Borrow.{Bor}
use Rattle.agg_types.specs.declared.column.Col.{Col}
use Rattle.fleet_model.specs.Keys.{Rows, key_rows, worth_of}
use Rattle.peer_rows.specs.declared.row.Row.{Row}
use Rattle.book_machine.specs.Foreseen.{within, worth_within}
use Rattle.book_rows.specs.Shown.{found_worth}
use Rattle.book_rows.specs.Store.{AreFound}
use Rattle.crossing.specs.First.{IsDropAt}
use Rattle.book_rows.proofs.Bounding.{worth_found}

-- the most of what was found of a key is the most of the key's rows, up to the last moment
pub most_found : (o : Option ℕ) (rows : Rows) (table : ℕ) (key : List ℕ) (cols own : List (Col × ℕ))
    (col : Col) (found : Option (Bor (List (ℕ × Row)))) → cols ≡ own → AreFound rows table key found
    → IfSome o (λ most. (t : ℕ) → found_worth cols col t found ≤ most)
    → IfSome o (λ most. (t : ℕ) → worth_of own (key_rows rows table key) col (within t) ≤ most)
most_found None rows table key cols own col found is are above = tt
most_found (Some most) rows table key cols own col found is are above = λ t.
    let under = above (within t) in
    let same : found_worth cols col (within t) found
    ≡ worth_of own (key_rows rows table key) col (within t) =
    worth_found rows table key cols col (within t) found are
    ∙ ap (λ (cols : List (Col × ℕ)). worth_of cols (key_rows rows table key) col (within t)) is in
    omega (arith, under, same)

-- what drops of rows that were found drops of the key's rows, up to the last moment
pub drop_of_found : (o : Option ℕ) (rows : Rows) (table : ℕ) (key : List ℕ) (cols : List (Col × ℕ))
    (col : Col) (from bound : ℕ) (found : Option (Bor (List (ℕ × Row))))
    → IfSome o (λ t. t < 2 ^ 64) → AreFound rows table key found
    → IfSome o (IsDropAt from (λ t. found_worth cols col t found) bound)
    → IfSome o (IsDropAt from (worth_within cols (key_rows rows table key) col) bound)
drop_of_found None rows table key cols col from bound found fits are drop = tt
drop_of_found (Some t) rows table key cols col from bound found fits are drop =
    let now = same t (omega (arith, fits)) in
    let before = same (t - 1) (omega (arith, fits)) in
    record {
      later = drop.later;
      below = omega (arith, now, drop.below);
      not_yet = omega (arith, before, drop.not_yet);
    }
  where
    same : (u : ℕ) → u ≡ within u → found_worth cols col u found
        ≡ worth_within cols (key_rows rows table key) col u
    same u is = worth_found rows table key cols col u found are
        ∙ ap (λ u. worth_of cols (key_rows rows table key) col u) is
