-- A whole turn.
use Rattle.std.proofs.Common.{◌≡◌, ℕ, true, false, List, [], ◌++◌, map, refl, sym, ap, ◌∙◌}
use Rattle.std.specs.Prelude.{slice_get, None, Some}
use Rattle.peers_msg.specs.declared.message.Message.{Message}
use Rattle.pushed_keys.specs.Turns.{ChangesNothing, told_tables, unsaid_tables}
use Rattle.pushed_keys.specs.declared.change.Turn.{Turn}
use Rattle.pushed_keys.specs.declared.pushed.Pushed.{Pushed}
use Rattle.pushed_keys.specs.declared.told.Mark.{Mark}
use Rattle.pushed_keys.specs.declared.told.ToldTable.{ToldTable}
use Rattle.pushed_keys.specs.declared.told.UnsaidTable.{UnsaidTable}
use Rattle.telling.specs.Down.{defined_behind}
use Rattle.telling.specs.Unsaid.{unsaid_updates}
use Rattle.telling.specs.Telling.{keys_told, table_at, told_keys, turn_messages, Told}
use Rattle.telling.specs.Telling.{defined_before, first_definitions, last_defined, text_of}
use Rattle.telling.specs.Telling.{told_after, turn_at, turn_text, turns, update_messages}
use Rattle.telling.specs.Telling.{table_turns}
use Rattle.telling.proofs.Steps.{none_left}
use Rattle.telling.proofs.Turns.{defined_are, last_stays, told_are, updates_are}

pub quiet_messages : (pushed : List Pushed) (sets : List (List (List ℕ))) (now : ℕ)
    (told : Told) (turn : Turn) (tables : List ToldTable) → turn ≡ turn_at now told
    → tables ≡ told.tables → told.begun ≡ true → ChangesNothing turn sets tables pushed
    → turn_messages pushed sets now told ≡ []
quiet_messages pushed sets now told turn tables t ts b q =
    let none : update_messages told.defined (table_turns turn sets tables 0 pushed) ≡ [] =
    sym (updates_are turn sets tables told.defined 0 pushed)
    ∙ none_left told.defined 0 pushed (unsaid_tables turn sets tables 0 pushed) q.silent in
    rw (b, ← t, ← ts, none) refl

pub quiet_told : (pushed : List Pushed) (sets : List (List (List ℕ))) (now : ℕ) (told : Told)
    (turn : Turn) (tables : List ToldTable) → turn ≡ turn_at now told → tables ≡ told.tables
    → told.begun ≡ true → told.anew ≡ false → ChangesNothing turn sets tables pushed
    → told_after pushed sets now told ≡ told
unfolding told_after
quiet_told pushed sets now told turn tables t ts b a q =
    let d : last_defined told.defined (table_turns turn sets tables 0 pushed) ≡ told.defined =
    sym (defined_are turn sets tables told.defined 0 pushed)
    ∙ last_stays told.defined 0 (unsaid_tables turn sets tables 0 pushed) q.silent in
    let m : map (λ table. table.after) (table_turns turn sets tables 0 pushed) ≡ tables =
    sym (told_are turn sets tables 0 pushed) ∙ q.same in
    let tables_are : map (λ table. table.after) (turns pushed sets now told) ≡ told.tables =
    rw (← t, ← ts) m in
    let defined_is : last_defined (defined_before pushed told) (turns pushed sets now told)
    ≡ told.defined =
    rw (b, ← t, ← ts) d in
    λ i. record {
      tables = tables_are i;
      defined = defined_is i;
      begun = sym b i;
      anew = sym a i;
    }

-- what is left before anything is written are the messages of the turn
pub whole_messages : (pushed : List Pushed) (sets : List (List (List ℕ))) (now : ℕ) (told : Told)
    (turn : Turn) (tables : List ToldTable) (left : List Message) (unsaid : List UnsaidTable)
    → turn ≡ turn_at now told → tables ≡ told.tables
    → left ≡ first_definitions pushed told
    ++ unsaid_updates (defined_before pushed told) 0 pushed unsaid
    → unsaid ≡ unsaid_tables turn sets tables 0 pushed → left ≡ turn_messages pushed sets now told
whole_messages pushed sets now told turn tables left unsaid t ts l u =
    l ∙ ap (λ (ms : List Message). first_definitions pushed told ++ ms)
    (ap (unsaid_updates (defined_before pushed told) 0 pushed) u
    ∙ updates_are turn sets tables (defined_before pushed told) 0 pushed
    ∙ (λ i. update_messages (defined_before pushed told)
    (table_turns (t i) sets (ts i) 0 pushed)))

pub whole_text : (pushed : List Pushed) (sets : List (List (List ℕ))) (now : ℕ) (told : Told)
    (left : List Message) → left ≡ turn_messages pushed sets now told
    → text_of left ≡ turn_text pushed sets now told
unfolding turn_text
whole_text pushed sets now told left is = ap text_of is

pub whole_told : (pushed : List Pushed) (sets : List (List (List ℕ))) (now : ℕ) (told : Told)
    (turn : Turn) (tables after : List ToldTable) (unsaid : List UnsaidTable) (last : ℕ)
    → turn ≡ turn_at now told → tables ≡ told.tables
    → unsaid ≡ unsaid_tables turn sets tables 0 pushed
    → after ≡ told_tables turn sets tables 0 pushed
    → last ≡ defined_behind (defined_before pushed told) 0 unsaid
    → record { tables = after; defined = last; begun = true; anew = false }
    ≡ told_after pushed sets now told
unfolding told_after
whole_told pushed sets now told turn tables after unsaid last t ts u a l =
    let tables_are : after ≡ map (λ table. table.after) (turns pushed sets now told) =
    a ∙ told_are turn sets tables 0 pushed
    ∙ (λ i. map (λ table. table.after) (table_turns (t i) sets (ts i) 0 pushed)) in
    let last_is : last ≡ last_defined (defined_before pushed told) (turns pushed sets now told) =
    l ∙ ap (defined_behind (defined_before pushed told) 0) u
    ∙ defined_are turn sets tables (defined_before pushed told) 0 pushed
    ∙ (λ i. last_defined (defined_before pushed told)
    (table_turns (t i) sets (ts i) 0 pushed)) in
    λ i. record { tables = tables_are i; defined = last_is i; begun = true; anew = false }

pub none_told : (pushed : List Pushed) (told : Told) (place now : ℕ)
    → slice_get pushed place ≡ None → told_keys pushed told place now ≡ []
unfolding told_keys
none_told pushed told place now is = rw is refl

pub table_told : (pushed : List Pushed) (told : Told) (place now : ℕ) (table : Pushed)
    (marks : List Mark) → slice_get pushed place ≡ Some table
    → marks ≡ (table_at told place).marks
    → told_keys pushed told place now ≡ keys_told table now marks
unfolding told_keys
table_told pushed told place now table marks is same = rw (is, same) refl
