-- The words of conditions.
use Rattle.std.proofs.Common.{◌≡◌, ℕ, ◌^◌, ◌<◌, true, ltb, List, [], ◌∷◌, refl}
use Rattle.std.proofs.lemmas.Bool.{ltb-true}
use Rattle.std.specs.List.{flat_map, list_all}
use Rattle.agg_types.specs.declared.config.Cond.{Cond}
use Rattle.line_words.specs.Conditions.{condition_words, have_bounds}
use Rattle.line_words.proofs.NamesBack.{data_is_word, operator_is_word}
use Rattle.line_words.proofs.WordsBack.{both, is_word, number_is_word}

pub bound_fits : (cond : Cond) (conds : List Cond) → have_bounds (cond ∷ conds) ≡ true
    → (cond.bound < 2 ^ 64) × (have_bounds conds ≡ true)
bound_fits cond conds all =
    let h = both (ltb cond.bound (2 ^ 64)) (have_bounds conds) all in
    (ltb-true cond.bound (2 ^ 64) h.0, h.1)

pub conditions_are_words : (conds : List Cond) → have_bounds conds ≡ true
    → list_all is_word (flat_map condition_words conds) ≡ true
conditions_are_words [] all = refl
conditions_are_words (cond ∷ conds) all =
    let h = bound_fits cond conds all in
    rw (
      data_is_word cond.col,
      operator_is_word cond.op,
      number_is_word cond.bound h.0,
      conditions_are_words conds h.1,
    ) refl
