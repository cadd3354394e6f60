-- The names of columns and comparisons that are written are read back.
use Rattle.std.proofs.Common.{◌≡◌, ℕ, true, ◌++◌, Some, Ok, codes, refl}
use Rattle.agg_types.specs.Col.{col_name}
use Rattle.agg_types.specs.declared.column.Col.{Col}
use Rattle.agg_types.specs.declared.column.Col.TheVariants as column
use Rattle.agg_types.specs.declared.config.Op.{Op}
use Rattle.agg_types.specs.declared.config.Op.TheVariants as operators
use Rattle.line_words.specs.Operators.{operator_of, operator_word}
use Rattle.line_words.specs.Reader.{column_named, data_column_named}
use Rattle.line_words.proofs.WordsBack.{is_word}

pub column_back : (col : Col) → column_named (col_name col) ≡ Some col
column_back column.Gpc0 = refl
column_back col = refl

pub data_back : (place : ℕ) (col : Col)
    → data_column_named place (codes "data." ++ col_name col) ≡ Ok col
data_back place column.Gpc0 = refl
data_back place col = refl

pub operator_back : (op : Op) → operator_of (operator_word op) ≡ Some op
operator_back operators.Eq = refl
operator_back op = refl

pub column_is_word : (col : Col) → is_word (col_name col) ≡ true
column_is_word column.Gpc0 = refl
column_is_word col = refl

pub data_is_word : (col : Col) → is_word (codes "data." ++ col_name col) ≡ true
data_is_word column.Gpc0 = refl
data_is_word col = refl

pub operator_is_word : (op : Op) → is_word (operator_word op) ≡ true
operator_is_word operators.Eq = refl
operator_is_word op = refl
