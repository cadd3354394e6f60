-- Ordering columns keeps those of each column.
use Rattle.std.proofs.Common.{◌≡◌, ℕ, eqb, Bool, true, false, if◌then◌else◌, List, [], ◌∷◌}
use Rattle.std.proofs.Common.{filter, refl, ap, ◌∙◌}
use Rattle.std.specs.List.{flat_map}
use Rattle.std.proofs.lemmas.Bool.{eqb-true}
use Rattle.std.proofs.lemmas.List.{append-nil}
use Rattle.std.proofs.lemmas.List.Elements.{filter-append}
use Rattle.agg_types.specs.Col.{all_cols, col_id, same_col}
use Rattle.agg_types.specs.declared.column.Col.{Col}
use Rattle.agg_types.specs.declared.column.Col.TheVariants as column
use Rattle.agg_config.specs.Columns.{in_order, of_column, ordered_by}

-- those of an id
abbrev with_id : ℕ → List (Col × ℕ) → List (Col × ℕ)
with_id id cols = filter (λ stored. eqb (col_id stored.0) id) cols

same_step : (id : ℕ) (stored : Col × ℕ) (rest : List (Col × ℕ)) (here : Bool)
    → eqb (col_id stored.0) id ≡ here → with_id id (with_id id rest) ≡ with_id id rest
    → with_id id (with_id id (stored ∷ rest)) ≡ with_id id (stored ∷ rest)
same_step id stored rest true e kept = rw (e, e) (ap (λ cols. stored ∷ cols) kept)
same_step id stored rest false e kept = rw e kept

same : (id : ℕ) (cols : List (Col × ℕ)) → with_id id (with_id id cols) ≡ with_id id cols
same id [] = refl
same id (stored ∷ rest) = same_step id stored rest (eqb (col_id stored.0) id) refl (same id rest)

other_step : (id other : ℕ) (stored : Col × ℕ) (rest : List (Col × ℕ)) (here : Bool)
    → eqb (col_id stored.0) other ≡ here → eqb other id ≡ false
    → with_id id (with_id other rest) ≡ [] → with_id id (with_id other (stored ∷ rest)) ≡ []
other_step id other stored rest true e apart none =
    let at : col_id stored.0 ≡ other = eqb-true (col_id stored.0) other e in
    let out : eqb (col_id stored.0) id ≡ false = rw at apart in
    rw (e, out) none
other_step id other stored rest false e apart none = rw e none

others : (id other : ℕ) (cols : List (Col × ℕ)) → eqb other id ≡ false
    → with_id id (with_id other cols) ≡ []
others id other [] apart = refl
others id other (stored ∷ rest) apart =
    other_step id other stored rest (eqb (col_id stored.0) other) refl apart
    (others id other rest apart)

chosen_by : (id other : ℕ) (cols : List (Col × ℕ)) (is_same : Bool) → eqb other id ≡ is_same
    → with_id id (with_id other cols) ≡ (if is_same then with_id id cols else [])
chosen_by id other cols true e = rw (eqb-true other id e) (same id cols)
chosen_by id other cols false e = others id other cols e

-- each column's entries stand where the order has that column
kept : (col : Col) (cols : List (Col × ℕ)) (order : List Col)
    → of_column col (ordered_by order cols)
    ≡ flat_map (λ other. if same_col other col then of_column col cols else []) order
kept col cols [] = refl
kept col cols (other ∷ order) =
    filter-append (λ stored. eqb (col_id stored.0) (col_id col)) (of_column other cols)
    (ordered_by order cols)
    ∙ rw (
      chosen_by (col_id col) (col_id other) cols (same_col other col) refl,
      kept col cols order,
    ) refl

-- the list of all columns has each of them once
once : (col : Col) (cols : List (Col × ℕ))
    → flat_map (λ other. if same_col other col then cols else []) all_cols ≡ cols
once column.Gpc0 cols = append-nil cols
once col cols = append-nil cols

pub in_order_keeps : (col : Col) (cols : List (Col × ℕ))
    → of_column col (in_order cols) ≡ of_column col cols
unfolding in_order
in_order_keeps col cols = kept col cols all_cols ∙ once col (of_column col cols)
