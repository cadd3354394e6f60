use Rattle.std.specs.Prelude.{ℕ, List, [], ◌∷◌, codes, find, Option}
use Rattle.std.specs.Str.{bytes_eq}
use Rattle.agg_types.specs.declared.config.Op.{Op}
use Rattle.agg_types.specs.declared.config.Op.TheVariants.{Eq, Ne, Le, Ge, Lt, Gt}

-- the word for a comparison
abbrev pub operator_word : Op → List ℕ
operator_word Eq = codes "eq"
operator_word Ne = codes "ne"
operator_word Le = codes "le"
operator_word Ge = codes "ge"
operator_word Lt = codes "lt"
operator_word Gt = codes "gt"

-- every comparison
abbrev pub all_operators : List Op
all_operators = Eq ∷ Ne ∷ Le ∷ Ge ∷ Lt ∷ Gt ∷ []

-- the comparison that a word names
abbrev pub operator_of : List ℕ → Option Op
operator_of word = find (λ op. bytes_eq (operator_word op) word) all_operators
