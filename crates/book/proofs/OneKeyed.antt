-- The values of one key, whichever key is asked for, as those of the state.
use Rattle.std.proofs.Common.{◌≡◌, ℕ, List, [], ◌∷◌, Option, sym, ap, ◌∙◌, subst}
use Rattle.std.specs.Borrow.{Bor}
use Rattle.std.specs.Option.{option_map}
use Rattle.agg_types.specs.declared.column.Col.{Col}
use Rattle.crossing.specs.First.{IsFlatSoon}
use Rattle.fleet_model.specs.Sound.{IsSound}
use Rattle.fleet_model.specs.State.{State}
use Rattle.fleet_model.specs.Values.{cols_of}
use Rattle.peer_rows.specs.declared.row.Row.{Row}
use Rattle.standing_filters.specs.Verdicts.{Foretells, meets_at}
use Rattle.standing_filters.specs.Watched.{AreTouched, IsTouched, Watched, verdict_at}
use Rattle.book.specs.OneKey.{KeyOf, flat_of, key_of, living_of_key, sums_of}
use Rattle.book_rows.specs.Store.{AreFound, AreRowsOf}
use Rattle.book.specs.Verdicts.{living_in, sums_in}
use Rattle.book.proofs.FewReads.{flat_soon}

-- the rows that were found are those of the key, and the columns those of its table
pub record IsReadOf (of : KeyOf) (lent : Option (Bor (List (ℕ × Row)))) (cols : List (Col × ℕ))
    : Type 0 where
  pub found : AreFound of.state.rows of.table of.key lent
  pub same : cols ≡ cols_of of.state.config.tables of.table

pub read_of : (inside seen : KeyOf) (kept : Option (List (ℕ × Row)))
    (lent : Option (Bor (List (ℕ × Row)))) (cols : List (Col × ℕ)) → inside ≡ seen
    → option_map (λ (l : Bor (List (ℕ × Row))). l.now) lent ≡ kept
    → AreRowsOf inside.state.rows inside.table inside.key kept
    → cols ≡ cols_of inside.state.config.tables inside.table → IsReadOf seen lent cols
read_of inside seen kept lent cols is same rows own = record {
  found = subst (λ (v : KeyOf). AreFound v.state.rows v.table v.key lent) is
      (subst (λ (o : Option (List (ℕ × Row))).
      AreRowsOf inside.state.rows inside.table inside.key o) (sym same) rows);
  same = own ∙ ap (λ (v : KeyOf). cols_of v.state.config.tables v.table) is;
}

-- what is judged by the values of the key is judged by those of the state
pub one_touches : (state : State) (table : ℕ) (key : List ℕ) (of : KeyOf) (now : ℕ)
    (old new : Watched) → of ≡ key_of state table key
    → IsTouched (λ t k. sums_of of) (λ t k. living_of_key of) table key now old new
    → IsTouched (sums_in state) (living_in state) table key now old new
one_touches state table key of now old new is touched = record {
  filter = touched.filter;
  judged = λ here.
      subst (λ (n : ℕ). Foretells (λ t. meets_at (λ other k. sums_in state n k)
      (λ other k. living_in state n k) old.filter.table old.filter.conds key t) now
      (verdict_at new.kept key)) (sym here)
      (subst (λ (v : KeyOf). Foretells (λ t. meets_at (λ other k. sums_of v)
      (λ other k. living_of_key v) old.filter.table old.filter.conds key t) now
      (verdict_at new.kept key)) is (touched.judged here));
  others = touched.others;
  elsewhere = touched.elsewhere;
}

pub one_touches_all : (state : State) (table : ℕ) (key : List ℕ) (of : KeyOf) (now : ℕ)
    (old new : List Watched) → of ≡ key_of state table key
    → AreTouched (λ t k. sums_of of) (λ t k. living_of_key of) table key now old new
    → AreTouched (sums_in state) (living_in state) table key now old new
one_touches_all state table key of now [] [] is touched = tt
one_touches_all state table key of now [] (b ∷ new) is touched = absurd touched
one_touches_all state table key of now (a ∷ old) [] is touched = absurd touched
one_touches_all state table key of now (a ∷ old) (b ∷ new) is touched = (
  one_touches state table key of now a b is touched.0,
  one_touches_all state table key of now old new is touched.1,
)

-- and stays from soon on
pub one_flat_soon : (state : State) (table : ℕ) (key : List ℕ) (of : KeyOf) (now : ℕ)
    → IsSound state → now ≡ state.moment
    → of ≡ key_of state table key → IsFlatSoon now (flat_of of)
one_flat_soon state table key of now sound moment is =
    subst (λ (v : KeyOf). IsFlatSoon now (flat_of v)) (sym is)
    (subst (λ (t : ℕ). IsFlatSoon t (flat_of (key_of state table key)))
    (sym moment) (flat_soon state table key sound))
