-- What a turn says of its tables, by what was taken down of them.
use Rattle.std.proofs.Common.{◌≡◌, ℕ, ◌+◌, Bool, false, List, [], ◌∷◌, ◌++◌, length}
use Rattle.std.proofs.Common.{get_or, ap, refl, sym, ◌∙◌, map, arith}
use Rattle.std.proofs.lemmas.Bool.Decides.{nat_tests}
use Rattle.std.specs.Prelude.{◌==◌, if◌then◌else◌}
use Rattle.peers_msg.specs.declared.message.Message.{Message}
use Rattle.pushed_keys.specs.Stands.{stands}
use Rattle.pushed_keys.specs.Turns.{AreSaid, changes, no_table, told_table, told_tables}
use Rattle.pushed_keys.specs.Turns.{unsaid_table, unsaid_tables}
use Rattle.pushed_keys.specs.declared.change.Change.{Change}
use Rattle.pushed_keys.specs.declared.change.Turn.{Turn}
use Rattle.pushed_keys.specs.declared.pushed.Pushed.{Pushed}
use Rattle.pushed_keys.specs.declared.told.ToldTable.{ToldTable}
use Rattle.pushed_keys.specs.declared.told.UnsaidTable.{UnsaidTable}
use Rattle.telling.specs.Down.{defined_behind}
use Rattle.telling.specs.Telling.{defined_after, last_defined, table_turn, table_turns}
use Rattle.telling.specs.Telling.{update_messages, updates, with_definition}
use Rattle.telling.specs.Unsaid.{unsaid_updates}

-- what is left before anything is written are the updates of the turn
pub updates_are : (turn : Turn) (sets : List (List (List ℕ))) (told : List ToldTable) (d b : ℕ)
    (ps : List Pushed) → unsaid_updates d b ps (unsaid_tables turn sets told b ps)
    ≡ update_messages d (table_turns turn sets told b ps)
unfolding unsaid_updates unsaid_tables unsaid_table update_messages table_turns table_turn
updates_are turn sets told d b [] = refl
updates_are turn sets told d b (p ∷ ps) =
    let old : ToldTable = get_or told b no_table in
    let us : List Message =
    updates p old.last (changes p turn (stands (get_or sets b []) old.marks)) in
    ap (λ (ms : List Message). with_definition d (b + 1) p us ++ ms)
    (updates_are turn sets told (defined_after d (b + 1) us) (b + 1) ps)

defined_by : (d id : ℕ) (p : Pushed) (last : ℕ) (cs : List (List ℕ × Change))
    → defined_after d id (updates p last cs) ≡ (if length cs == 0 then d else id)
defined_by d id p last [] = refl
defined_by d id p last (c ∷ cs) =
    let some : (length (c ∷ cs) == 0) ≡ false = grind (arith, nat_tests) in
    sym (ap (λ (b : Bool). if b then d else id) some)

-- and the table that is defined last is the turn's
pub defined_are : (turn : Turn) (sets : List (List (List ℕ))) (told : List ToldTable) (d b : ℕ)
    (ps : List Pushed) → defined_behind d b (unsaid_tables turn sets told b ps)
    ≡ last_defined d (table_turns turn sets told b ps)
unfolding unsaid_tables unsaid_table last_defined table_turns table_turn
defined_are turn sets told d b [] = refl
defined_are turn sets told d b (p ∷ ps) =
    let old : ToldTable = get_or told b no_table in
    let cs : List (List ℕ × Change) = changes p turn (stands (get_or sets b []) old.marks) in
    ap (λ (e : ℕ). defined_behind e (b + 1) (unsaid_tables turn sets told (b + 1) ps))
    (sym (defined_by d (b + 1) p old.last cs))
    ∙ defined_are turn sets told (defined_after d (b + 1) (updates p old.last cs)) (b + 1) ps

-- and what was told behind it
pub told_are : (turn : Turn) (sets : List (List (List ℕ))) (told : List ToldTable) (b : ℕ)
    (ps : List Pushed) → told_tables turn sets told b ps
    ≡ map (λ table. table.after) (table_turns turn sets told b ps)
unfolding told_tables table_turns table_turn
told_are turn sets told b [] = refl
told_are turn sets told b (p ∷ ps) =
    ap (λ (ts : List ToldTable).
    told_table turn p (get_or sets b []) (get_or told b no_table) ∷ ts)
    (told_are turn sets told (b + 1) ps)

-- where nothing was taken down, the table that was defined last still is
pub last_stays : (d b : ℕ) (ts : List UnsaidTable) → AreSaid ts → defined_behind d b ts ≡ d
last_stays d b [] said = refl
last_stays d b (t ∷ ts) said =
    ap (λ (cs : List (List ℕ × Change)).
    defined_behind (if length cs == 0 then d else b + 1) (b + 1) ts) said.0
    ∙ last_stays d (b + 1) ts said.1
