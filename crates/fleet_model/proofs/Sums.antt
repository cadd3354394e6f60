-- The summed row of a key says what its words say.
use Rattle.std.proofs.Common.{◌≡◌, ℕ, ◌+◌, ◌≤◌, ⊎_elim, Bool, true, false, cond, ◌||◌, ◌==◌, max}
use Rattle.std.proofs.Common.{List, [], ◌∷◌, map, length, Option, None, Some, is_none, refl, sym}
use Rattle.std.proofs.Common.{ap, ◌∙◌, subst, arith}
use Rattle.std.proofs.lemmas.Bool.{cases_lt, eq-eqb, eqb-true, or_cases}
use Rattle.std.proofs.lemmas.List.Elements.{All-from_recursion}
use Rattle.std.proofs.lemmas.List.Sums.{sum_by-cons}
use Rattle.std.specs.List.{AllByRecursion, count_by, filter, fold, list_any}
use Rattle.agg_types.specs.Col.{all_cols}
use Rattle.agg_types.specs.declared.row_key.RowKey.{RowKey}
use Rattle.fleet_model.proofs.Members.{any-map}
use Rattle.fleet_model.specs.Answers.{left_of, longer, rows_of, sum_up, summed}
use Rattle.fleet_model.specs.Laws.{IsLongestLeft, IsSummedRow, IsWithin}
use Rattle.fleet_model.specs.Seats.{is_number}
use Rattle.fleet_model.specs.State.{State}
use Rattle.fleet_model.specs.Values.{cols_of, is_of, value}
use Rattle.fleet_model.specs.declared.arrival.Arrival.{Arrival}

-- ---- the longest of some lives
abbrev Longest : List (Option ℕ) → Option ℕ → Type 0
Longest lefts None = list_any (λ left. is_none left) lefts ≡ true
Longest lefts (Some most) = AllByRecursion (IsWithin most) lefts
    × (list_any (λ left. is_number left most) lefts ≡ true)

either_most : (a b most : ℕ) (rest : Bool) → ((max a b == most) || rest) ≡ true
    → ((a == most) || ((b == most) || rest)) ≡ true
either_most a b most rest h =
    ⊎_elim
    (λ e. let is : max a b ≡ most = eqb-true (max a b) most e in
    ⊎_elim (λ lt. let second : b ≡ most = omega arith in
    last (a == most) (b == most) rest (eq-eqb b most second))
    (λ ge. let first : a ≡ most = omega arith in
    ap (λ t. t || ((b == most) || rest)) (eq-eqb a most first)) (cases_lt a b))
    (λ e. others (a == most) (b == most) rest e)
    (or_cases (max a b == most) rest h)
  where
    last : (x y z : Bool) → y ≡ true → (x || (y || z)) ≡ true
    last true y z e = refl
    last false y z e = ap (λ t. t || z) e

    others : (x y z : Bool) → z ≡ true → (x || (y || z)) ≡ true
    others true y z e = refl
    others false true z e = refl
    others false false z e = e

split_longest : (a b : Option ℕ) (lefts : List (Option ℕ)) (most : Option ℕ)
    → Longest (longer a b ∷ lefts) most → Longest (a ∷ b ∷ lefts) most
split_longest None b lefts None h = refl
split_longest None b lefts (Some most) h = absurd h.0.0
split_longest (Some a) None lefts None h = refl
split_longest (Some a) None lefts (Some most) h = absurd h.0.0
split_longest (Some a) (Some b) lefts None h = h
split_longest (Some a) (Some b) lefts (Some most) h =
    let both : max a b ≤ most = h.0.0 in
    let first : a ≤ most = omega arith in
    let second : b ≤ most = omega arith in (
      (first, (second, h.0.1)),
      either_most a b most (list_any (λ left. is_number left most) lefts)
          h.1,
    )

longest_one : (a : Option ℕ) → Longest (a ∷ []) a
longest_one None = refl
longest_one (Some a) = let le : a ≤ a = omega arith in
    ((le, tt), ap (λ t. t || false) (eq-eqb a a refl))

longest_of : (t : ℕ) (a : Option ℕ) (rows : List (RowKey × Arrival))
    → Longest (a ∷ map (λ row. left_of t row.1) rows)
    (fold (λ left other. longer left (left_of t other.1)) a rows)
longest_of t a [] = longest_one a
longest_of t a (row ∷ rows) = split_longest a (left_of t row.1) (map (λ row. left_of t row.1) rows)
    _ (longest_of t (longer a (left_of t row.1)) rows)

within_rows : (t most : ℕ) (rows : List (RowKey × Arrival))
    → AllByRecursion (IsWithin most) (map (λ row. left_of t row.1) rows)
    → AllByRecursion (λ (row : RowKey × Arrival). IsWithin most (left_of t row.1)) rows
within_rows t most [] h = tt
within_rows t most (row ∷ rows) h = (h.0, within_rows t most rows h.1)

of_rows : (t : ℕ) (rows : List (RowKey × Arrival)) (most : Option ℕ)
    → Longest (map (λ row. left_of t row.1) rows) most → IsLongestLeft t rows most
of_rows t rows None h = sym (any-map (λ left. is_none left)
    (λ (row : RowKey × Arrival). left_of t row.1) rows) ∙ h
of_rows t rows (Some most) h = (
  All-from_recursion (λ (row : RowKey × Arrival). IsWithin most (left_of t row.1)) rows
      (within_rows t most rows h.0),
  sym (any-map (λ left. is_number left most) (λ (row : RowKey × Arrival). left_of t row.1) rows)
      ∙ h.1,
)

-- ---- how many rows
abbrev any_of : {X : Type 0} → List X → Bool
any_of [] = false
any_of (x ∷ xs) = true

any_filtered : {X : Type 0} (p : X → Bool) (xs : List X) → list_any p xs ≡ any_of (filter p xs)
any_filtered p [] = refl
any_filtered p (x ∷ xs) = elim (p x) as (λ b. (b || list_any p xs)
    ≡ any_of (cond b (x ∷ filter p xs) (filter p xs))) [ true ↦ refl | false ↦ any_filtered p xs ]

count_filtered : {X : Type 0} (p : X → Bool) (xs : List X) → count_by p xs ≡ length (filter p xs)
count_filtered p [] = refl
count_filtered p (x ∷ xs) =
    let whole = sum_by-cons (λ x. cond (p x) 1 0) x xs in
    let rest = count_filtered p xs in
    elim (p x) as (λ b. count_by p (x ∷ xs) ≡ cond b 1 0 + count_by p xs
    → count_by p (x ∷ xs) ≡ length (cond b (x ∷ filter p xs) (filter p xs))) [
      | true ↦ λ one. omega arith
      | false ↦ λ none. omega arith
    ] whole

summed_is : (state : State) (table : ℕ) (key : List ℕ) (rows : List (RowKey × Arrival))
    → rows_of state table key ≡ rows
    → IsSummedRow state table key (sum_up
    (map (λ col. value (cols_of state.config.tables table) state.rows table key col state.moment)
    all_cols) state.moment rows)
unfolding rows_of
summed_is state table key [] e = any_filtered (is_of table key state.moment) state.rows
    ∙ ap any_of e
summed_is state table key (row ∷ rows) e = (
  any_filtered (is_of table key state.moment) state.rows ∙ ap any_of e,
  record {
    peers = let count = count_filtered (is_of table key state.moment) state.rows
        ∙ ap length e in omega arith;
    left = subst (λ (rs : List (RowKey × Arrival)). IsLongestLeft state.moment rs
        (fold (λ left other. longer left (left_of state.moment other.1))
        (left_of state.moment row.1) rows)) (sym e)
        (of_rows state.moment (row ∷ rows) _
        (longest_of state.moment (left_of state.moment row.1) rows));
    values = refl;
  },
)

-- the summed row of a key counts the rows that live, has the most that one of them has left, and
-- the values
pub sums : (state : State) (table : ℕ) (key : List ℕ)
    → IsSummedRow state table key (summed state table key)
unfolding summed
sums state table key = summed_is state table key (rows_of state table key) refl
