-- The rows in force after one more judged event.
use Rattle.std.proofs.Common.{◌≡◌, ℕ, ◌≤◌, Bool, true, false, cond, not, ◌&&◌, List, [], ◌∷◌, ◌++◌}
use Rattle.std.proofs.Common.{Option, None, Some, T, refl, sym, ap, ◌∙◌, arith}
use Rattle.std.proofs.lemmas.Bool.{and_parts, and_from}
use Rattle.std.proofs.lemmas.Bool.Decides.{nat_tests}
use Rattle.std.proofs.lemmas.Cmp.{nat_cmp_total, nat_list_cmp_total, on_total, then_total}
use Rattle.std.proofs.lemmas.List.Folds.{list_all-append}
use Rattle.std.proofs.lemmas.List.Sums.{fold-append}
use Rattle.std.proofs.lemmas.Map.Lookups.{exact_unsigned, exact_bytes}
use Rattle.std.specs.BTreeMap.{insert_entry, is_at}
use Rattle.std.specs.Bool.{then_some}
use Rattle.std.specs.Cmp.{IsTotalOrder, eq_by_cmp_equiv}
use Rattle.std.specs.Cmp.Lexicographic.{slice_cmp}
use Rattle.std.specs.FinMap.Entries.{is_sorted}
use Rattle.std.specs.List.{cons_option, filter, list_all}
use Rattle.std.specs.Map.{remove_entry}
use Rattle.std.specs.Option.{option_to_list}
use Rattle.std.specs.Ordering.{is_eq, nat_cmp, ordering_then}
use Rattle.std.specs.declared.cmp.Ordering.{Ordering}
use Rattle.std.specs.declared.cmp.Ordering.TheVariants.{Less, Equal, Greater}
use Rattle.agg_types.specs.RowKey.{row_key_cmp}
use Rattle.agg_types.specs.declared.row_key.RowKey.{RowKey}
use Rattle.fleet_model.proofs.Bools.{first_equal, second_equal}
use Rattle.fleet_model.proofs.Entries.{absent, are_apart, gather, gather-filter, insert-others}
use Rattle.fleet_model.proofs.Entries.{remove_is, sorted-gather}
use Rattle.fleet_model.specs.Machine.{with_row}
use Rattle.fleet_model.specs.Moments.{is_live, lives}
use Rattle.fleet_model.specs.Rows.{Judged, by_place, if_in_force, in_force, leaves_alone, puts_at}
use Rattle.fleet_model.specs.declared.arrival.Arrival.{Arrival}

pub row_key_cmp_total : IsTotalOrder row_key_cmp
row_key_cmp_total =
    then_total (on_total (λ (p : RowKey). p.table) nat_cmp_total)
    (then_total (on_total (λ (p : RowKey). p.key) nat_list_cmp_total)
    (on_total (λ (p : RowKey). p.peer) nat_cmp_total))

-- only equal places tie
pub row_key_cmp_exact : (p q : RowKey) → row_key_cmp p q ≡ Equal → p ≡ q
row_key_cmp_exact p q e =
    let rest : ordering_then (slice_cmp nat_cmp p.key q.key) (nat_cmp p.peer q.peer) ≡ Equal =
    second_equal (nat_cmp p.table q.table) _ e in
    let tables : p.table ≡ q.table =
    exact_unsigned p.table q.table (first_equal (nat_cmp p.table q.table) _ e) in
    let keys : p.key ≡ q.key = exact_bytes p.key q.key
    (first_equal (slice_cmp nat_cmp p.key q.key) _ rest) in
    let peers : p.peer ≡ q.peer = exact_unsigned p.peer q.peer
    (second_equal (slice_cmp nat_cmp p.key q.key) _ rest) in
    λ i. record { table = tables i; key = keys i; peer = peers i }

one_kept : {X : Type 0} (p : X → Bool) (r : X) (live' all alone live : Bool) (ys o : List X)
    → (live' && alone) ≡ (live && p r)
    → cons_option (then_some (live' && (all && (alone && true))) r) (filter p ys ++ o)
    ≡ filter p (cons_option (then_some (live && all) r) ys) ++ o
one_kept p r true true true true ys o h = ap (λ b. cond b (r ∷ filter p ys) (filter p ys) ++ o) h
one_kept p r true true false true ys o h = ap (λ b. cond b (r ∷ filter p ys) (filter p ys) ++ o) h
one_kept p r false true alone true ys o h = ap (λ b. cond b (r ∷ filter p ys) (filter p ys) ++ o) h
one_kept p r true true true false ys o h = cc
one_kept p r true true false false ys o h = refl
one_kept p r false true alone false ys o h = refl
one_kept p r true false alone true ys o h = refl
one_kept p r true false alone false ys o h = refl
one_kept p r false false alone true ys o h = refl
one_kept p r false false alone false ys o h = refl

one_event : (t t' : ℕ) (p : RowKey × Arrival → Bool) (j : Judged)
    → ((r : RowKey × Arrival) → (is_live t' r.1 && leaves_alone r.0 j) ≡ (is_live t r.1 && p r))
    → (later : List Judged) (xs ys o : List (RowKey × Arrival)) → xs ≡ filter p ys ++ o
    → (row : Option (RowKey × Arrival)) → cons_option (if_in_force t' (later ++ j ∷ []) row) xs
    ≡ filter p (cons_option (if_in_force t later row) ys) ++ o
unfolding if_in_force
one_event t t' p j same later xs ys o e None = e
one_event t t' p j same later xs ys o e (Some r) =
    ap (λ b. cons_option (then_some (is_live t' r.1 && b) r) xs)
    (list_all-append (leaves_alone r.0) later (j ∷ []))
    ∙ ap (cons_option (then_some (is_live t' r.1
    && (list_all (leaves_alone r.0) later && (leaves_alone r.0 j && true))) r)) e
    ∙ one_kept p r (is_live t' r.1) (list_all (leaves_alone r.0) later) (leaves_alone r.0 j)
    (is_live t r.1) ys o (same r)

-- the rows in force after one more event: of those before, each of which it leaves alone and that
-- still lives, and its own
pub in_force-push : (t t' : ℕ) (p : RowKey × Arrival → Bool) (j : Judged)
    → ((r : RowKey × Arrival) → (is_live t' r.1 && leaves_alone r.0 j) ≡ (is_live t r.1 && p r))
    → (h : List Judged) → in_force t' (h ++ j ∷ []) ≡ filter p (in_force t h)
    ++ option_to_list (if_in_force t' [] j.row)
unfolding in_force
in_force-push t t' p j same [] =
    elim (if_in_force t' [] j.row) as (λ o. cons_option o [] ≡ option_to_list o) [
      | None ↦ refl
      | Some r ↦ refl
    ]
in_force-push t t' p j same (k ∷ later) =
    one_event t t' p j same later (in_force t' (later ++ j ∷ [])) (in_force t later)
    (option_to_list (if_in_force t' [] j.row)) (in_force-push t t' p j same later) k.row

abbrev elsewhere : RowKey → RowKey × Arrival → Bool
elsewhere place row = not (is_eq (row_key_cmp place row.0))

left_elsewhere : (t : ℕ) (place : RowKey) (later : List Judged) (xs : List (RowKey × Arrival))
    (o : Option (RowKey × Arrival)) → not (puts_at o place) ≡ true → list_all (elsewhere place) xs
    ≡ true → list_all (elsewhere place) (cons_option (if_in_force t later o) xs) ≡ true
unfolding if_in_force
left_elsewhere t place later xs None h rest = rest
left_elsewhere t place later xs (Some r) h rest =
    elim (is_live t r.1 && list_all (leaves_alone r.0) later) as
    (λ b. list_all (elsewhere place) (cons_option (then_some b r) xs) ≡ true) [
      | true ↦
          and_from _ _ h rest
      | false ↦ rest
    ]

-- events that leave a place alone leave no row there
alone-elsewhere : (t : ℕ) (place : RowKey) (h : List Judged) → list_all (leaves_alone place) h
    ≡ true → list_all (elsewhere place) (in_force t h) ≡ true
unfolding in_force
alone-elsewhere t place [] e = refl
alone-elsewhere t place (j ∷ later) e =
    let parts = and_parts (leaves_alone place j) (list_all (leaves_alone place) later) e in
    left_elsewhere t place later (in_force t later) j.row
    (and_parts (not (puts_at j.row place)) (not (j.clears place)) parts.0).0
    (alone-elsewhere t place later parts.1)

one_apart : (t : ℕ) (later : List Judged) (o : Option (RowKey × Arrival))
    → are_apart row_key_cmp (in_force t later) ≡ true
    → are_apart row_key_cmp (cons_option (if_in_force t later o) (in_force t later)) ≡ true
unfolding if_in_force
one_apart t later None rest = rest
one_apart t later (Some r) rest =
    elim (list_all (leaves_alone r.0) later) as (λ b. list_all (leaves_alone r.0) later ≡ b
    → are_apart row_key_cmp (cons_option (then_some (is_live t r.1 && b) r) (in_force t later))
    ≡ true) [
      | true ↦ λ e. elim (is_live t r.1) as
          (λ b. are_apart row_key_cmp (cons_option (then_some (b && true) r) (in_force t later))
          ≡ true) [ true ↦ and_from _ _ (alone-elsewhere t r.0 later e) rest | false ↦ rest ]
      | false ↦ λ e. elim (is_live t r.1) as
          (λ b. are_apart row_key_cmp (cons_option (then_some (b && false) r) (in_force t later))
          ≡ true) [ true ↦ rest | false ↦ rest ]
    ] refl

-- at most one row is in force at a place
pub in_force-apart : (t : ℕ) (h : List Judged) → are_apart row_key_cmp (in_force t h) ≡ true
unfolding in_force
in_force-apart t [] = refl
in_force-apart t (j ∷ later) = one_apart t later j.row (in_force-apart t later)

all_absent : (xs : List (RowKey × Arrival)) → list_all (absent row_key_cmp []) xs ≡ true
all_absent [] = refl
all_absent (x ∷ xs) = all_absent xs

pub by_place-sorted : (xs : List (RowKey × Arrival)) → T (is_sorted row_key_cmp (by_place xs))
unfolding by_place
by_place-sorted xs = sorted-gather row_key_cmp row_key_cmp_total row_key_cmp_exact [] xs tt

-- the same by place: a filter of the rows before, and its own row in its place
rows-push : (t t' : ℕ) (p : RowKey × Arrival → Bool) (j : Judged)
    → ((r : RowKey × Arrival) → (is_live t' r.1 && leaves_alone r.0 j) ≡ (is_live t r.1 && p r))
    → (h : List Judged) → by_place (in_force t' (h ++ j ∷ []))
    ≡ gather row_key_cmp (filter p (by_place (in_force t h)))
    (option_to_list (if_in_force t' [] j.row))
unfolding by_place
rows-push t t' p j same h =
    ap by_place (in_force-push t t' p j same h)
    ∙ fold-append (λ (es : List (RowKey × Arrival)) x. insert_entry row_key_cmp es x.0 x.1) []
    (filter p (in_force t h)) (option_to_list (if_in_force t' [] j.row))
    ∙ ap (λ es. gather row_key_cmp es (option_to_list (if_in_force t' [] j.row)))
    (gather-filter row_key_cmp row_key_cmp_total row_key_cmp_exact p [] (in_force t h) tt
    (in_force-apart t h) (all_absent (in_force t h)))

filter_all : {X : Type 0} (xs : List X) → filter (λ _. true) xs ≡ xs
filter_all [] = refl
filter_all (x ∷ xs) = ap (λ rest. x ∷ rest) (filter_all xs)

abbrev pub Clears_none : Judged → Type 0
Clears_none j = (place : RowKey) → j.clears place ≡ false

-- an event that leaves no row and clears none
pub rows-same : (t : ℕ) (j : Judged) → j.row ≡ None → Clears_none j → (h : List Judged)
    → by_place (in_force t (h ++ j ∷ [])) ≡ by_place (in_force t h)
unfolding if_in_force
rows-same t j none clears h =
    rows-push t t (λ _. true) j (λ r i. is_live t r.1
    && (not (puts_at (none i) r.0) && not (clears r.0 i))) h
    ∙ ap (λ o. gather row_key_cmp (filter (λ _. true) (by_place (in_force t h)))
    (option_to_list (if_in_force t [] o))) none
    ∙ filter_all (by_place (in_force t h))

-- an event that clears
pub rows-cleared : (t : ℕ) (j : Judged) → j.row ≡ None → (h : List Judged)
    → by_place (in_force t (h ++ j ∷ [])) ≡ filter (λ r. not (j.clears r.0))
    (by_place (in_force t h))
unfolding if_in_force
rows-cleared t j none h =
    rows-push t t (λ r. not (j.clears r.0)) j (λ r i. is_live t r.1
    && (not (puts_at (none i) r.0) && not (j.clears r.0))) h
    ∙ ap (λ o. gather row_key_cmp (filter (λ r. not (j.clears r.0)) (by_place (in_force t h)))
    (option_to_list (if_in_force t [] o))) none

still_lives : (life : Option ℕ) (arrived t t' : ℕ) → t ≤ t' → (lives life arrived t' && true)
    ≡ (lives life arrived t && lives life arrived t')
still_lives None arrived t t' h = refl
still_lives (Some life) arrived t t' h = grind (arith, nat_tests)

-- a later moment
pub rows-later : (t t' : ℕ) → t ≤ t' → (j : Judged) → j.row ≡ None → Clears_none j
    → (h : List Judged) → by_place (in_force t' (h ++ j ∷ [])) ≡ filter (λ r. is_live t' r.1)
    (by_place (in_force t h))
unfolding if_in_force
rows-later t t' le j none clears h =
    rows-push t t' (λ r. is_live t' r.1) j
    (λ r. ap (λ b. is_live t' r.1 && b) (λ i. not (puts_at (none i) r.0) && not (clears r.0 i))
    ∙ still_lives r.1.life r.1.arrived t t' le) h
    ∙ ap (λ o. gather row_key_cmp (filter (λ r. is_live t' r.1) (by_place (in_force t h)))
    (option_to_list (if_in_force t' [] o))) none

and_true : (a : Bool) → (a && true) ≡ a
and_true true = refl
and_true false = refl

put_or_removed : (b : Bool) (row : RowKey × Arrival) (es : List (RowKey × Arrival))
    → T (is_sorted row_key_cmp es) → gather row_key_cmp (filter (elsewhere row.0) es)
    (option_to_list (then_some (b && true) row)) ≡ cond b (insert_entry row_key_cmp es row.0 row.1)
    (remove_entry (is_at (row_key_cmp row.0)) es)
put_or_removed true row es h = insert-others row_key_cmp row_key_cmp_total row_key_cmp_exact
    es row.0 row.1 h
put_or_removed false row es h = sym (remove_is row_key_cmp row_key_cmp_total row_key_cmp_exact row.0
    es h)

-- a Put that is taken
pub rows-put : (t : ℕ) (j : Judged) (row : RowKey × Arrival) → j.row ≡ Some row → Clears_none j
    → (h : List Judged) → by_place (in_force t (h ++ j ∷ []))
    ≡ with_row t (by_place (in_force t h)) row.0 row.1
unfolding if_in_force with_row
rows-put t j row put clears h =
    rows-push t t (elsewhere row.0) j
    (λ r. ap (λ b. is_live t r.1 && b) ((λ i. not (puts_at (put i) r.0) && not (clears r.0 i))
    ∙ and_true (not (is_eq (row_key_cmp r.0 row.0)))
    ∙ ap not ((eq_by_cmp_equiv row_key_cmp_total).symm r.0 row.0))) h
    ∙ ap (λ o. gather row_key_cmp (filter (elsewhere row.0) (by_place (in_force t h)))
    (option_to_list (if_in_force t [] o))) put
    ∙ put_or_removed (is_live t row.1) row (by_place (in_force t h))
    (by_place-sorted (in_force t h))
