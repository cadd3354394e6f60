-- What one connection was told.
use Rattle.std.specs.Prelude.{ℕ, Bool, true, false, List, []}
use Rattle.pushed_keys.specs.declared.told.ToldTable.{ToldTable}

-- what was told of each pushed table; the table that was defined last, 0 for none; whether the
-- first turn was made; and whether the next one puts every key of the sets anew
pub record Told : Type 0 where
  pub tables : List ToldTable
  pub defined : ℕ
  pub begun : Bool
  pub anew : Bool

-- what a connection was told that was told nothing
abbrev pub untold : Told
untold = record { tables = []; defined = 0; begun = false; anew = false }

-- a resync request was read
abbrev pub asked : Told → Told
asked told =
    record { tables = told.tables; defined = told.defined; begun = told.begun; anew = true }
