-- The first keys of a walk, of those that are sought, are the first of the listing.
use Rattle.std.proofs.Common.{◌≡◌, ℕ, Bool, true, false, cond, ◌&&◌}
use Rattle.std.proofs.Common.{List, [], ◌∷◌, ◌++◌, Option, length, take, map}
use Rattle.std.proofs.Common.{refl, sym, ap, ◌∙◌, subst, ⊎_elim}
use Rattle.std.specs.Prelude.{filter}
use Rattle.std.proofs.lemmas.Bool.{cases_lt}
use Rattle.std.proofs.lemmas.List.{append-nil, take_all, take-append-le, take-map}
use Rattle.std.proofs.lemmas.List.Sorted.{IsPermutation-append_comm}
use Rattle.std.proofs.lemmas.List.Sorted.{IsPermutation-append_right}
use Rattle.std.proofs.lemmas.List.Sorted.{IsPermutation-sym, IsPermutation-trans}
use Rattle.std.proofs.lemmas.Map.Made.{IsDistinct-keys_filter}
use Rattle.std.specs.Cmp.Lexicographic.{slice_cmp}
use Rattle.std.specs.List.{AllByRecursion}
use Rattle.std.specs.List.Sorted.{IsPermutation}
use Rattle.std.specs.Option.{option_copied}
use Rattle.std.specs.Ordering.{eq_by_cmp, nat_cmp}
use Rattle.std.specs.declared.cmp.Ordering.TheVariants.{Less}
use Rattle.agg_types.specs.declared.column.Col.{Col}
use Rattle.fleet_model.specs.Keys.{Rows}
use Rattle.fleet_model.specs.Ranking.{in_order}
use Rattle.fleet_model.specs.State.{State}
use Rattle.fleet_model.specs.Values.{cols_of}
use Rattle.fleet_model.specs.declared.summed.Summed.{Summed}
use Rattle.fleet_model.proofs.Every.{ordered-filter}
use Rattle.peer_rows.specs.Places.{Keys}
use Rattle.book_frame.specs.Lent.{listed_where, shown_row}
use Rattle.book_rows.specs.First.{AreFirst, AreOnce, ListsFirst, first_behind, is_behind, is_sought}
use Rattle.book_rows.specs.Listing.{ListsMeeting, rows_meet, summed_up, sums_of}
use Rattle.book_rows.specs.Store.{IsEachKeyOf}
use Rattle.book_rows.specs.declared.first.Sought.{Sought}
use Rattle.book_rows.proofs.KeysMeeting.{met_moved, met_of_walk}
use Rattle.book_rows.proofs.KeyOrder.{Entry, InOrder, all-in_order, all-moved, by_key, filter-cond}
use Rattle.book_rows.proofs.KeyOrder.{in_order-append, once-left, once-moved, only_order, ordered}
use Rattle.book_rows.proofs.KeyOrder.{ordered-moved}

-- ---- keys that meet two tests
filter-both : (p q : Entry → Bool) (xs : Keys) → filter (λ x. p x && q x) xs
    ≡ filter p (filter q xs)
filter-both p q [] = refl
filter-both p q (x ∷ xs) =
    ap (λ (l : Keys). cond (p x && q x) (x ∷ l) l) (filter-both p q xs)
    ∙ by (p x) (q x) (filter p (filter q xs))
    ∙ sym (filter-cond p (q x) x (filter q xs))
  where
    by : (a b : Bool) (l : Keys) → cond (a && b) (x ∷ l) l ≡ cond b (cond a (x ∷ l) l) l
    by true true l = refl
    by true false l = refl
    by false true l = refl
    by false false l = refl

-- ---- the first of the keys that are sought
module _ (most : ℕ) (sought : Keys) (first : Keys) (once : AreOnce sought)
    (h : AreFirst most sought first) where
  first-only : (keys : Keys) → InOrder keys → IsPermutation sought keys → take most keys ≡ first
  first-only keys up moved =
      ap (take most) (only_order keys (first ++ in_order by_key h.others) up whole-up
      (IsPermutation-trans keys sought (first ++ in_order by_key h.others)
      (IsPermutation-sym sought keys moved) whole-moved))
      ∙ taken
    where
      whole-moved : IsPermutation sought (first ++ in_order by_key h.others)
      whole-moved = IsPermutation-trans sought (first ++ h.others)
          (first ++ in_order by_key h.others) h.moved
          (IsPermutation-append_right first h.others (in_order by_key h.others)
          (all-moved h.others))

      others-once : AreOnce h.others
      others-once = once-left h.others first
          (once-moved (first ++ h.others) (h.others ++ first)
          (IsPermutation-append_comm first h.others)
          (once-moved sought (first ++ h.others) h.moved once))

      whole-up : InOrder (first ++ in_order by_key h.others)
      whole-up = in_order-append first (in_order by_key h.others) h.in_order
          (ordered h.others others-once)
          (all-in_order (λ o. AllByRecursion (λ e. slice_cmp nat_cmp e.0 o.0 ≡ Less) first)
          by_key h.others h.before)

      taken : take most (first ++ in_order by_key h.others) ≡ first
      taken = ⊎_elim
          (λ few. ap (λ (l : Keys). take most (first ++ in_order by_key l)) (h.full few)
          ∙ ap (take most) (append-nil first) ∙ take_all most first h.short)
          (λ many. take-append-le most first (in_order by_key h.others) many
          ∙ take_all most first h.short)
          (cases_lt (length first) most)

pub first_sought : (rows : Rows) (table : ℕ) (cols : List (Col × ℕ)) (t : ℕ) (sought : Sought)
    (walk first : Keys) → IsEachKeyOf rows table walk
    → AreFirst sought.most (filter (is_sought cols t sought) walk) first
    → ListsFirst rows table cols t sought (summed_up cols t first)
first_sought rows table cols t sought walk first each h =
    let after : Option (List ℕ) = option_copied sought.after in
    let behind : Entry → Bool = λ e. is_behind after e.0 in
    let meets : Entry → Bool = λ e. rows_meet cols sought.conds.now t e.1 in
    let met : Keys = filter meets walk in
    let are = met_of_walk rows table cols sought.conds.now t walk each in
    let keys : Keys = in_order by_key met in
    let up : InOrder keys = ordered met are.once in
    let both : filter (is_sought cols t sought) walk ≡ filter behind met =
    filter-both behind meets walk in
    let all : IsPermutation (filter (is_sought cols t sought) walk) (filter behind keys) =
    subst (λ (l : Keys). IsPermutation l (filter behind keys)) (sym both)
    (ordered-moved behind met) in
    let once : AreOnce (filter (is_sought cols t sought) walk) =
    IsDistinct-keys_filter (eq_by_cmp (slice_cmp nat_cmp)) (is_sought cols t sought) walk
    each.once in
    record {
      keys = keys;
      meeting = met_moved rows table cols sought.conds.now t met keys are (all-moved met);
      in_order = up;
      sums = ap (summed_up cols t) (sym (first-only sought.most
          (filter (is_sought cols t sought) walk) first once h (filter behind keys)
          (ordered-filter (slice_cmp nat_cmp) behind keys up) all));
    }

-- ---- a listing of the first keys
module _ {X Y : Type 0} (f : List ℕ × X → List ℕ × Y)
    (keeps : (e : List ℕ × X) → (f e).0 ≡ e.0) where
  pub first-map : (most : ℕ) (after : Option (List ℕ)) (rows : List (List ℕ × X))
      → map f (first_behind most after rows) ≡ first_behind most after (map f rows)
  first-map most after rows =
      sym (take-map f most (filter (λ row. is_behind after row.0) rows))
      ∙ ap (take most) (filtered rows)
    where
      filtered : (rows : List (List ℕ × X)) → map f (filter (λ row. is_behind after row.0) rows)
          ≡ filter (λ row. is_behind after row.0) (map f rows)
      filtered [] = refl
      filtered (row ∷ rows) =
          by (filtered rows) (is_behind after row.0)
          ∙ ap (λ (b : Bool). cond b (f row ∷ filter (λ r. is_behind after r.0) (map f rows))
          (filter (λ r. is_behind after r.0) (map f rows)))
          (ap (is_behind after) (sym (keeps row)))
        where
          by : map f (filter (λ r. is_behind after r.0) rows)
              ≡ filter (λ r. is_behind after r.0) (map f rows) → (b : Bool)
              → map f (cond b (row ∷ filter (λ r. is_behind after r.0) rows)
              (filter (λ r. is_behind after r.0) rows))
              ≡ cond b (f row ∷ filter (λ r. is_behind after r.0) (map f rows))
              (filter (λ r. is_behind after r.0) (map f rows))
          by rest true = ap (λ (l : List (List ℕ × Y)). f row ∷ l) rest
          by rest false = rest

pub first_shown : (state : State) (table : ℕ) (sought : Sought)
    (shown : List (List ℕ × Summed))
    → ListsFirst state.rows table (cols_of state.config.tables table) state.moment sought shown
    → ((listed : List (List ℕ × Summed))
    → ListsMeeting state.rows table (cols_of state.config.tables table) sought.conds.now
    state.moment listed → map shown_row listed ≡ listed_where state table sought.conds.now)
    → map shown_row shown ≡ first_behind sought.most (option_copied sought.after)
    (listed_where state table sought.conds.now)
first_shown state table sought shown lists whole =
    let cols : List (Col × ℕ) = cols_of state.config.tables table in
    let after : Option (List ℕ) = option_copied sought.after in
    ap (map shown_row) lists.sums
    ∙ ap (map shown_row) (first-map (λ (e : Entry). (e.0, sums_of cols state.moment e.1))
    (λ e. refl) sought.most after lists.keys)
    ∙ first-map shown_row (λ row. refl) sought.most after (summed_up cols state.moment lists.keys)
    ∙ ap (first_behind sought.most after) (whole (summed_up cols state.moment lists.keys) (record {
      keys = lists.keys;
      meeting = lists.meeting;
      in_order = lists.in_order;
      sums = refl;
    }))
