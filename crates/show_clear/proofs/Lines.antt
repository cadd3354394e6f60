-- The lines of rows that are listed.
use Rattle.std.proofs.Common.{◌≡◌, ℕ, List, [], ◌∷◌, ◌++◌, length, map, ◌≤◌, arith}
use Rattle.std.proofs.Common.{refl, sym, ap, ◌∙◌}
use Rattle.std.specs.List.{flat_map}
use Rattle.agg_types.specs.declared.config.Cond.{Cond}
use Rattle.fleet_model.specs.declared.summed.Summed.{Summed}
use Rattle.agg_types.specs.declared.config.Rank.{Rank}
use Rattle.fleet_model.specs.Ranking.{ranked, ranking}
use Rattle.fleet_model.specs.State.{State}
use Rattle.std.proofs.lemmas.List.{length-take}
use Rattle.agg_types.specs.declared.event.Select.TheVariants.{Conds}
use Rattle.fleet_model.specs.Answers.{keys_of, listed, summed}
use Rattle.fleet_model.specs.Values.{cols_of, meets}
use Rattle.book.specs.Lent.{listed_where, shown_row}
use Rattle.book_frame.proofs.Listings.{map-filter}
use Rattle.answer_text.specs.Tables.{row_text, shape_of}
use Rattle.show_clear.specs.Answer.{line_if, row_lines, rows_text}
use Rattle.show_clear.specs.Selected.{key_row, taken_keys}
use Rattle.show_clear.proofs.Chosen.{shown_as_taken}

module _ (state : State) (table : ℕ) where
  lines_shown : (rows : List (List ℕ × Summed))
      → flat_map (line_if (shape_of state table) []) (map shown_row rows)
      ≡ row_lines (shape_of state table) rows
  lines_shown [] = refl
  lines_shown (row ∷ rows) = ap (λ more. row_text (shape_of state table) row.0 row.1 ++ more)
      (lines_shown rows)

  lines_of_keys : (keys : List (List ℕ)) → flat_map (key_row state table) keys
      ≡ flat_map (line_if (shape_of state table) [])
      (map (λ key. (key, summed state table key)) keys)
  lines_of_keys [] = refl
  lines_of_keys (key ∷ keys) = ap (λ more. key_row state table key ++ more) (lines_of_keys keys)

  -- the rows that are listed by conditions have the lines of the selected rows
  pub lines_where : (conds : List Cond) (rows : List (List ℕ × Summed))
      → map shown_row rows ≡ listed_where state table conds
      → rows_text state table (Conds conds) ≡ row_lines (shape_of state table) rows
  unfolding listed
  lines_where conds rows is =
      shown_as_taken state table conds
      ∙ lines_of_keys (taken_keys state table (Conds conds))
      ∙ ap (flat_map (line_if (shape_of state table) []))
      (map-filter (λ (key : List ℕ). (key, summed state table key))
      (λ row. meets (cols_of state.config.tables table) state.rows table row.0 state.moment conds)
      (keys_of state table) ∙ sym is)
      ∙ lines_shown rows

-- a ranked list has no more keys than it may
pub ranked_short : (state : State) (rank : Rank) → length (ranked state rank) ≤ rank.n
unfolding ranked
ranked_short state rank = omega (arith, length-take rank.n (ranking state rank.table rank.col))
