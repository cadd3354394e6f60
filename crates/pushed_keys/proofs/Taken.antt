-- What is taken down of tables, one after the other.
use Rattle.std.proofs.Common.{◌≡◌, ℕ, ◌+◌, ◌<◌, ◌≤◌, List, [], ◌∷◌, ◌++◌, length}
use Rattle.std.proofs.Common.{drop, get_or, ap, refl, sym, ◌∙◌, append_assoc, append-nil, subst}
use Rattle.std.proofs.lemmas.List.{drop_all}
use Rattle.std.specs.Prelude.{IfOk, Result}
use Rattle.pushed_keys.specs.Moves.{BringsTo}
use Rattle.pushed_keys.specs.Turns.{no_table, told_table, told_tables, unsaid_table, unsaid_tables}
use Rattle.pushed_keys.specs.declared.change.Turn.{Turn}
use Rattle.pushed_keys.specs.declared.moved.Moved.{Moved}
use Rattle.pushed_keys.specs.declared.pushed.Pushed.{Pushed}
use Rattle.pushed_keys.specs.declared.told.ToldTable.{ToldTable}
use Rattle.pushed_keys.specs.declared.told.UnsaidTable.{UnsaidTable}
use Rattle.pushed_keys.proofs.Rest.{drop_here}

-- what is taken down of the tables so far, and what is still to be taken down
pub record AreTakenDown (turn : Turn) (sets : List (List (List ℕ))) (told : List ToldTable)
    (all : List Pushed) (before : ℕ) (left : List Pushed) (unsaid : List UnsaidTable)
    (tables : List ToldTable) : Type 0 where
  pub unsaid_are : unsaid ++ unsaid_tables turn sets told before left
      ≡ unsaid_tables turn sets told 0 all
  pub tables_are : tables ++ told_tables turn sets told before left
      ≡ told_tables turn sets told 0 all

pub none_taken : (turn : Turn) (sets : List (List (List ℕ))) (told : List ToldTable)
    (all : List Pushed) → AreTakenDown turn sets told all 0 all [] []
none_taken turn sets told all = record { unsaid_are = refl; tables_are = refl }

-- with one table more
pub one_taken : (turn : Turn) (sets : List (List (List ℕ))) (told : List ToldTable)
    (all : List Pushed) (b : ℕ) (p : Pushed) (us new_us : List UnsaidTable)
    (ts new_ts : List ToldTable) (u : UnsaidTable) (t : ToldTable)
    → AreTakenDown turn sets told all b (drop b all) us ts → b < length all
    → p ≡ get_or all b p
    → u ≡ unsaid_table turn p (get_or sets b []) (get_or told b no_table)
    → t ≡ told_table turn p (get_or sets b []) (get_or told b no_table)
    → new_us ≡ us ++ u ∷ [] → new_ts ≡ ts ++ t ∷ []
    → AreTakenDown turn sets told all (b + 1) (drop (b + 1) all) new_us new_ts
unfolding told_tables unsaid_tables
one_taken turn sets told all b p us new_us ts new_ts u t so_far lt is u_is t_is us_are ts_are =
    let rest : List Pushed = drop (b + 1) all in
    let here : drop b all ≡ p ∷ rest = drop_here all b p lt is in
    let others : List UnsaidTable = unsaid_tables turn sets told (b + 1) rest in
    let afters : List ToldTable = told_tables turn sets told (b + 1) rest in
    record {
      unsaid_are = ap (λ (xs : List UnsaidTable). xs ++ others) us_are
          ∙ append_assoc us (u ∷ []) others ∙ ap (λ (x : UnsaidTable). us ++ x ∷ others) u_is
          ∙ ap (λ (ps : List Pushed). us ++ unsaid_tables turn sets told b ps) (sym here)
          ∙ so_far.unsaid_are;
      tables_are = ap (λ (xs : List ToldTable). xs ++ afters) ts_are
          ∙ append_assoc ts (t ∷ []) afters ∙ ap (λ (x : ToldTable). ts ++ x ∷ afters) t_is
          ∙ ap (λ (ps : List Pushed). ts ++ told_tables turn sets told b ps) (sym here)
          ∙ so_far.tables_are;
    }

-- all are taken down where none is left
pub all_unsaid : (turn : Turn) (sets : List (List (List ℕ))) (told : List ToldTable)
    (all : List Pushed) (b : ℕ) (us : List UnsaidTable) (ts : List ToldTable)
    → AreTakenDown turn sets told all b (drop b all) us ts → length all ≤ b
    → us ≡ unsaid_tables turn sets told 0 all
unfolding unsaid_tables
all_unsaid turn sets told all b us ts so_far out =
    sym (append-nil us) ∙ ap (λ (ps : List Pushed). us ++ unsaid_tables turn sets told b ps)
    (sym (drop_all b all out)) ∙ so_far.unsaid_are

pub all_told : (turn : Turn) (sets : List (List (List ℕ))) (told : List ToldTable)
    (all : List Pushed) (b : ℕ) (us : List UnsaidTable) (ts : List ToldTable)
    → AreTakenDown turn sets told all b (drop b all) us ts → length all ≤ b
    → ts ≡ told_tables turn sets told 0 all
unfolding told_tables
all_told turn sets told all b us ts so_far out =
    sym (append-nil ts) ∙ ap (λ (ps : List Pushed). ts ++ told_tables turn sets told b ps)
    (sym (drop_all b all out)) ∙ so_far.tables_are

-- ---- what moves make of a table, by other words for the moves and for the table

pub moved_unsaid : {E : Type 0} (result : Result (UnsaidTable × ToldTable) E) (turn : Turn)
    (pushed : Pushed) (ms ns : List Moved) (t u : ToldTable) → ms ≡ ns → t ≡ u
    → IfOk result (λ tables. (set : List (List ℕ)) → BringsTo ms t.marks set
    → tables.0 ≡ unsaid_table turn pushed set t)
    → IfOk result (λ tables. (set : List (List ℕ)) → BringsTo ns u.marks set
    → tables.0 ≡ unsaid_table turn pushed set u)
moved_unsaid result turn pushed ms ns t u moves table h =
    subst (λ (xs : List Moved). IfOk result (λ tables. (set : List (List ℕ))
    → BringsTo xs u.marks set → tables.0 ≡ unsaid_table turn pushed set u)) moves
    (subst (λ (x : ToldTable). IfOk result (λ tables. (set : List (List ℕ))
    → BringsTo ms x.marks set → tables.0 ≡ unsaid_table turn pushed set x)) table h)

pub moved_told : {E : Type 0} (result : Result (UnsaidTable × ToldTable) E) (turn : Turn)
    (pushed : Pushed) (ms ns : List Moved) (t u : ToldTable) → ms ≡ ns → t ≡ u
    → IfOk result (λ tables. (set : List (List ℕ)) → BringsTo ms t.marks set
    → tables.1 ≡ told_table turn pushed set t)
    → IfOk result (λ tables. (set : List (List ℕ)) → BringsTo ns u.marks set
    → tables.1 ≡ told_table turn pushed set u)
moved_told result turn pushed ms ns t u moves table h =
    subst (λ (xs : List Moved). IfOk result (λ tables. (set : List (List ℕ))
    → BringsTo xs u.marks set → tables.1 ≡ told_table turn pushed set u)) moves
    (subst (λ (x : ToldTable). IfOk result (λ tables. (set : List (List ℕ))
    → BringsTo ms x.marks set → tables.1 ≡ told_table turn pushed set x)) table h)

-- the same of a set

pub set_unsaid : {E : Type 0} (result : Result (UnsaidTable × ToldTable) E) (turn : Turn)
    (pushed : Pushed) (ks ls : List (List ℕ)) (t u : ToldTable) → ks ≡ ls → t ≡ u
    → IfOk result (λ tables. tables.0 ≡ unsaid_table turn pushed ks t)
    → IfOk result (λ tables. tables.0 ≡ unsaid_table turn pushed ls u)
set_unsaid result turn pushed ks ls t u set table h =
    subst (λ (xs : List (List ℕ)). IfOk result (λ tables.
    tables.0 ≡ unsaid_table turn pushed xs u)) set
    (subst (λ (x : ToldTable). IfOk result (λ tables.
    tables.0 ≡ unsaid_table turn pushed ks x)) table h)

pub set_told : {E : Type 0} (result : Result (UnsaidTable × ToldTable) E) (turn : Turn)
    (pushed : Pushed) (ks ls : List (List ℕ)) (t u : ToldTable) → ks ≡ ls → t ≡ u
    → IfOk result (λ tables. tables.1 ≡ told_table turn pushed ks t)
    → IfOk result (λ tables. tables.1 ≡ told_table turn pushed ls u)
set_told result turn pushed ks ls t u set table h =
    subst (λ (xs : List (List ℕ)). IfOk result (λ tables.
    tables.1 ≡ told_table turn pushed xs u)) set
    (subst (λ (x : ToldTable). IfOk result (λ tables.
    tables.1 ≡ told_table turn pushed ks x)) table h)
