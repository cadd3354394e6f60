-- Rows taken away by a list of the keys that are chosen are those whose own key is chosen.
use Rattle.std.proofs.Common.{◌≡◌, ℕ, ◌==◌, Bool, true, false, List, [], ◌∷◌, ◌++◌, ◌&&◌, ◌||◌, not}
use Rattle.std.proofs.Common.{cond, refl, sym, ◌∙◌, append_assoc}
use Rattle.std.specs.Prelude.{filter, map}
use Rattle.std.specs.Bool.{Decides}
use Rattle.std.specs.List.{list_any}
use Rattle.std.specs.Str.{bytes_eq}
use Rattle.std.proofs.lemmas.Bool.Decides.{Decides-at}
use Rattle.std.proofs.lemmas.Map.Text.{is_eq-slice_cmp}
use Rattle.std.proofs.lemmas.Slice.Eq.{bytes_eq-Decides}
use Rattle.agg_types.specs.declared.row_key.RowKey.{RowKey}
use Rattle.fleet_model.specs.declared.arrival.Arrival.{Arrival}
use Rattle.fleet_model.specs.Values.{same_key}

-- two tests that hold together are one
same_tests : (a b : Bool) → (a ≡ true → b ≡ true) → (b ≡ true → a ≡ true) → a ≡ b
same_tests true b there back = sym (there refl)
same_tests false true there back = back refl
same_tests false false there back = refl

pub and-left : (a b : Bool) → a && b ≡ true → a ≡ true
and-left true b both = refl
and-left false b both = cc

pub and-right : (a b : Bool) → a && b ≡ true → b ≡ true
and-right true b both = both
and-right false b both = cc

or-cases : {C : Type 0} (a b : Bool) → a || b ≡ true → (a ≡ true → C) → (b ≡ true → C) → C
or-cases true b either first second = first refl
or-cases false b either first second = second either

or-right : (a b : Bool) → b ≡ true → a || b ≡ true
or-right true b h = refl
or-right false b h = h

-- one more row, which is chosen or isn't
meets-more : {R K : Type 0} (same : K → K → Bool) → ((a b : K) → same a b ≡ true → a ≡ b)
    → (key : R → K) (meets : K → Bool) (chosen : Bool) (row : R) (rows : List R) (k : K)
    → (chosen ≡ true → meets (key row) ≡ true)
    → (list_any (λ other. same other k) (map key rows) ≡ true → meets k ≡ true)
    → list_any (λ other. same other k) (map key (cond chosen (row ∷ rows) rows)) ≡ true
    → meets k ≡ true
meets-more same same_is key meets true row rows k its rest found =
    or-cases (same (key row) k) (list_any (λ other. same other k) (map key rows)) found
    (λ s. rw (← same_is (key row) k s) (its refl)) rest
meets-more same same_is key meets false row rows k its rest found = rest found

-- what is found among the chosen rows' keys is chosen
meets-any : {R K : Type 0} (same : K → K → Bool) → ((a b : K) → same a b ≡ true → a ≡ b)
    → (here : R → Bool) (key : R → K) (meets : K → Bool) (rows : List R) (k : K)
    → list_any (λ other. same other k) (map key (filter (λ row. here row && meets (key row)) rows))
    ≡ true → meets k ≡ true
meets-any same same_is here key meets [] k found = cc
meets-any same same_is here key meets (row ∷ rows) k found =
    meets-more same same_is key meets (here row && meets (key row)) row
    (filter (λ r. here r && meets (key r)) rows) k
    (and-right (here row) (meets (key row)))
    (meets-any same same_is here key meets rows k)
    found

any-more : {R K : Type 0} (same : K → K → Bool) (key : R → K) (chosen : Bool) (row : R)
    (rows : List R) (k : K) → list_any (λ other. same other k) (map key rows) ≡ true
    → list_any (λ other. same other k) (map key (cond chosen (row ∷ rows) rows)) ≡ true
any-more same key true row rows k found = or-right (same (key row) k) _ found
any-more same key false row rows k found = found

any-own : {R K : Type 0} (same : K → K → Bool) → ((a : K) → same a a ≡ true)
    → (key : R → K) (chosen : Bool) (row : R) (rows : List R) → chosen ≡ true
    → list_any (λ other. same other (key row)) (map key (cond chosen (row ∷ rows) rows)) ≡ true
any-own same same_own key true row rows chosen = rw (same_own (key row)) refl
any-own same same_own key false row rows chosen = cc

-- a chosen row's key is found among those of the chosen rows
any-chosen : {R K : Type 0} (same : K → K → Bool) → ((a : K) → same a a ≡ true)
    → (here : R → Bool) (key : R → K) (meets : K → Bool) (front rest : List R) (row : R)
    → here row && meets (key row) ≡ true
    → list_any (λ other. same other (key row))
    (map key (filter (λ r. here r && meets (key r)) (front ++ row ∷ rest))) ≡ true
any-chosen same same_own here key meets [] rest row chosen =
    any-own same same_own key (here row && meets (key row)) row
    (filter (λ r. here r && meets (key r)) rest) chosen
any-chosen same same_own here key meets (other ∷ front) rest row chosen =
    any-more same key (here other && meets (key other)) other
    (filter (λ r. here r && meets (key r)) (front ++ row ∷ rest)) (key row)
    (any-chosen same same_own here key meets front rest row chosen)

-- among these rows a row is taken by the keys that are chosen exactly where its own is
taken-same : (here found meets : Bool) → (found ≡ true → meets ≡ true)
    → (here && meets ≡ true → found ≡ true) → here && found ≡ here && meets
taken-same true found meets there back = same_tests found meets there back
taken-same false found meets there back = refl

keep-same : {R : Type 0} (a b : Bool) (row : R) (xs ys : List R) → a ≡ b → xs ≡ ys
    → cond (not a) (row ∷ xs) xs ≡ cond (not b) (row ∷ ys) ys
keep-same a b row xs ys first rest = rw (first, rest) refl

filter-chosen_from : {R K : Type 0} (same : K → K → Bool) → ((a b : K) → same a b ≡ true → a ≡ b)
    → ((a : K) → same a a ≡ true) → (here : R → Bool) (key : R → K) (meets : K → Bool)
    (rows front rest : List R) → rows ≡ front ++ rest
    → filter (λ row. not (here row && list_any (λ other. same other (key row))
    (map key (filter (λ r. here r && meets (key r)) rows)))) rest
    ≡ filter (λ row. not (here row && meets (key row))) rest
filter-chosen_from same same_is same_own here key meets rows front [] whole = refl
filter-chosen_from same same_is same_own here key meets rows front (row ∷ rest) whole =
    keep-same
    (here row && list_any (λ other. same other (key row))
    (map key (filter (λ r. here r && meets (key r)) rows)))
    (here row && meets (key row))
    row
    (filter (λ r. not (here r && list_any (λ other. same other (key r))
    (map key (filter (λ q. here q && meets (key q)) rows)))) rest)
    (filter (λ r. not (here r && meets (key r))) rest)
    (taken-same (here row) _ (meets (key row)) (meets-any same same_is here key meets rows
    (key row)) (λ chosen. rw whole (any-chosen same same_own here key meets front
    rest row chosen)))
    (filter-chosen_from same same_is same_own here key meets rows (front ++ row ∷ []) rest (whole
    ∙ sym (append_assoc front (row ∷ []) rest)))

pub filter-chosen : {R K : Type 0} (same : K → K → Bool) → ((a b : K) → same a b ≡ true → a ≡ b)
    → ((a : K) → same a a ≡ true) → (here : R → Bool) (key : R → K) (meets : K → Bool)
    (rows : List R)
    → filter (λ row. not (here row && list_any (λ other. same other (key row))
    (map key (filter (λ r. here r && meets (key r)) rows)))) rows
    ≡ filter (λ row. not (here row && meets (key row))) rows
filter-chosen same same_is same_own here key meets rows =
    filter-chosen_from same same_is same_own here key meets rows [] rows refl

pub same_key-decides : (a b : List ℕ) → Decides (same_key a b) (a ≡ b)
same_key-decides a b = Decides-at (same_key a b) (bytes_eq a b) (is_eq-slice_cmp a b)
    (bytes_eq-Decides a b)

-- rows by place, taken away by the keys of those that meet a test, as keys
pub filter-chosen_keys : (table : ℕ) (meets : List ℕ → Bool) (rows : List (RowKey × Arrival))
    (keys : List (List ℕ)) → keys ≡ map (λ row. row.0.key)
    (filter (λ row. (row.0.table == table) && meets row.0.key) rows)
    → filter (λ row. not ((row.0.table == table) && list_any (λ key. same_key key row.0.key) keys))
    rows
    ≡ filter (λ row. not ((row.0.table == table) && meets row.0.key)) rows
filter-chosen_keys table meets rows keys are =
    rw are
    (filter-chosen same_key (λ a b. (same_key-decides a b).0) (λ a. (same_key-decides a a).1 refl)
    (λ row. row.0.table == table) (λ row. row.0.key) meets rows)
