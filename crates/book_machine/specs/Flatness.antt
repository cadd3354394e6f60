-- Laws of the values of keys as the clock goes on.
use Rattle.std.proofs.Common.{◌≡◌, ℕ, ◌+◌, ◌-◌, ◌^◌, ◌≤◌, ◌<◌, ◌⊎◌, inl, inr, Bool, true, false}
use Rattle.std.proofs.Common.{List, [], ◌∷◌, refl, ap, subst, nat_le, arith}
use Rattle.std.proofs.lemmas.Bool.Decides.{nat_tests}
use Rattle.agg_types.specs.declared.column.Col.{Col}
use Rattle.fleet_model.specs.Changes.{row_flat_from, rows_flat_from}
use Rattle.fleet_model.specs.Keys.{Rows, key_rows, one_if, worth_of}
use Rattle.fleet_model.specs.Moments.{is_live}
use Rattle.fleet_model.specs.Next.{flat_moment, longest_period}
use Rattle.fleet_model.specs.Values.{value}
use Rattle.fleet_model.specs.declared.arrival.Arrival.{Arrival}
use Rattle.fleet_model.proofs.Falls.{lived_before, value_falls}
use Rattle.fleet_model.proofs.KeyChanges.{live_flat, rows-under, rows_worth_flat}
use Rattle.fleet_model.proofs.KeyRows.{value-rows}
use Rattle.book_machine.specs.Foreseen.{flat_within, living_of, living_within, within, worth_within}

-- ---- they only fall
pub worth_falls : (cols : List (Col × ℕ)) (rows : Rows) (table : ℕ) (key : List ℕ)
    (col : Col) (t later : ℕ) → t ≤ later
    → worth_within cols (key_rows rows table key) col later
    ≤ worth_within cols (key_rows rows table key) col t
worth_falls cols rows table key col t later h =
    subst (λ n. n ≤ worth_within cols (key_rows rows table key) col t)
    (value-rows cols rows table key col (within later))
    (subst (λ n. value cols rows table key col (within later) ≤ n)
    (value-rows cols rows table key col (within t))
    (value_falls cols rows table key col (within t) (within later) (omega arith)))

one_falls : (row : Arrival) (t later : ℕ) → t ≤ later
    → one_if (is_live later row) ≤ one_if (is_live t row)
one_falls row t later h = by (is_live later row) (is_live t row) refl refl
  where
    by : (a b : Bool) → is_live later row ≡ a → is_live t row ≡ b → one_if a ≤ one_if b
    by true true e f = omega arith
    by false b e f = omega arith
    by true false e f =
        let lived : is_live t row ≡ true = lived_before row.life row.arrived t later h e in cc

living_falls_at : (rows : Rows) (t later : ℕ) → t ≤ later
    → living_of rows later ≤ living_of rows t
living_falls_at [] t later h = omega arith
living_falls_at (row ∷ rows) t later h =
    let own : one_if (is_live later row.1) ≤ one_if (is_live t row.1) =
    one_falls row.1 t later h in
    let rest : living_of rows later ≤ living_of rows t = living_falls_at rows t later h in
    omega arith

pub living_falls : (rows : Rows) (t later : ℕ) → t ≤ later
    → living_within rows later ≤ living_within rows t
living_falls rows t later h = living_falls_at rows (within t) (within later) (omega arith)

-- ---- and stay from some moment on
-- a moment that isn't before another, within the last one: either it is the last one, or both come
-- after what is flat
flat_or_last : (flat t : ℕ) → within flat ≤ t
    → (within t ≡ within (within flat))
    ⊎ ((flat ≤ within (within flat)) × (within (within flat) ≤ within t))
flat_or_last flat t h = by (nat_le flat (2 ^ 64 - 1)) refl
  where
    by : (b : Bool) → nat_le flat (2 ^ 64 - 1) ≡ b
        → (within t ≡ within (within flat))
        ⊎ ((flat ≤ within (within flat)) × (within (within flat) ≤ within t))
    by true e =
        let short : flat ≤ 2 ^ 64 - 1 = grind (arith, nat_tests) in
        inr (omega arith, omega arith)
    by false e = let long : 2 ^ 64 - 1 < flat = grind (arith, nat_tests) in inl (omega arith)

pub worth_stays : (cols : List (Col × ℕ)) (rows : Rows) (col : Col) (t : ℕ)
    → flat_within cols rows ≤ t
    → worth_within cols rows col t ≡ worth_within cols rows col (flat_within cols rows)
worth_stays cols rows col t h =
    let flat = flat_moment (longest_period cols) rows in
    let under : rows_flat_from cols rows ≤ flat = rows-under cols rows in
    elim (flat_or_last flat t h) [
      | inl same ↦ ap (λ u. worth_of cols rows col u) same
      | inr both ↦
          let since : flat ≤ within (within flat) = both.0 in
          rows_worth_flat cols (within (within flat)) (within t) both.1 col rows (omega arith)
    ]

living_flat : (cols : List (Col × ℕ)) (t later : ℕ) → t ≤ later → (rows : Rows)
    → rows_flat_from cols rows ≤ t → living_of rows later ≡ living_of rows t
living_flat cols t later h [] flat = refl
living_flat cols t later h (row ∷ rows) flat =
    let own : row_flat_from cols row.1 ≤ t = omega arith in
    let rest : rows_flat_from cols rows ≤ t = omega arith in
    (λ i. one_if (live_flat cols t later h row.1 own i) + living_flat cols t later h rows rest i)

pub living_stays : (cols : List (Col × ℕ)) (rows : Rows) (t : ℕ)
    → flat_within cols rows ≤ t
    → living_within rows t ≡ living_within rows (flat_within cols rows)
living_stays cols rows t h =
    let flat = flat_moment (longest_period cols) rows in
    let under : rows_flat_from cols rows ≤ flat = rows-under cols rows in
    elim (flat_or_last flat t h) [
      | inl same ↦ ap (λ u. living_of rows u) same
      | inr both ↦
          let since : flat ≤ within (within flat) = both.0 in
          living_flat cols (within (within flat)) (within t) both.1 rows (omega arith)
    ]
