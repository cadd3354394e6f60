-- Conditions written out.
use Rattle.std.specs.Prelude.{ℕ, ◌^◌, Bool, nat_lt, List, [], ◌∷◌, ◌++◌, codes}
use Rattle.std.specs.Fmt.{decimal}
use Rattle.std.specs.List.{list_all}
use Rattle.agg_types.specs.Col.{col_name}
use Rattle.agg_types.specs.declared.config.Cond.{Cond}
use Rattle.line_words.specs.Operators.{operator_word}

-- a condition: `data.<col> <op> <value>`
abbrev pub condition_words : Cond → List (List ℕ)
condition_words cond =
    (codes "data." ++ col_name cond.col) ∷ operator_word cond.op ∷ decimal cond.bound ∷ []

-- the bound of each condition has 64 bits
abbrev pub have_bounds : List Cond → Bool
have_bounds conds = list_all (λ cond. nat_lt cond.bound (2 ^ 64)) conds
