-- What a turn has still to write, once it has taken down what changed, and a piece of it.
use Rattle.std.specs.Prelude.{◌≡◌, ◌≢◌, ◌⊎◌, ◌<◌, ◌≤◌, ℕ, ◌+◌, List, [], ◌∷◌, ◌++◌, length}
use Rattle.std.specs.Prelude.{take, drop, Option, None, Some}
use Rattle.std.specs.List.{AllByRecursion}
use Rattle.peers_msg.specs.declared.message.Message.{Message}
use Rattle.pushed_keys.specs.declared.pushed.Pushed.{Pushed}
use Rattle.pushed_keys.specs.declared.told.UnsaidTable.{UnsaidTable}
use Rattle.telling.specs.Telling.{defined_after, definitions, text_of, updates, with_definition}
use Rattle.telling.specs.declared.unsaid.TheConstants.{PIECE}

-- of the definitions that the first turn begins with, the place of the first that is left; and the
-- table that is defined last before the updates. Of each table it has the updates that are left,
-- but for so many first tables, of which none is
pub record Unsaid : Type 0 where
  pub undefined : Option ℕ
  pub defined : ℕ
  pub before : ℕ
  pub tables : List UnsaidTable

-- the definitions that are left from a place on
abbrev pub undefined_from : List Pushed → Option ℕ → List Message
undefined_from pushed None = []
undefined_from pushed (Some place) = definitions place (drop place pushed)

-- the updates that are left of these tables, the first of which stands behind so many others, each
-- behind its table's definition or another update of it
unfoldable pub unsaid_updates : ℕ → ℕ → List Pushed → List UnsaidTable → List Message
unsaid_updates defined before [] tables = []
unsaid_updates defined before (pushed ∷ others) [] = []
unsaid_updates defined before (pushed ∷ others) (table ∷ tables) =
    let left : List Message = updates pushed table.last table.changes in
    with_definition defined (before + 1) pushed left
    ++ unsaid_updates (defined_after defined (before + 1) left) (before + 1) others tables

-- the messages that are left
unfoldable pub unsaid_messages : List Pushed → Unsaid → List Message
unsaid_messages pushed unsaid =
    undefined_from pushed unsaid.undefined
    ++ unsaid_updates unsaid.defined unsaid.before (drop unsaid.before pushed) unsaid.tables

-- nothing is left, whatever is pushed
pub record IsSaid (unsaid : Unsaid) : Type 0 where
  pub defined : unsaid.undefined ≡ None
  pub told : AllByRecursion (λ table. table.changes ≡ []) unsaid.tables

-- a piece is the first messages of what was left, at least one where one was left, and no more than
-- fit unless it is one alone. What is left then is what stands behind them
pub record IsPiece (pushed : List Pushed) (old new : Unsaid) (piece : List ℕ) : Type 0 where
  pub count : ℕ
  pub goes_on : unsaid_messages pushed old ≢ [] → 0 < count
  pub says : piece ≡ text_of (take count (unsaid_messages pushed old))
  pub left : unsaid_messages pushed new ≡ drop count (unsaid_messages pushed old)
  pub small : (length piece ≤ PIECE) ⊎ (count ≡ 1)
