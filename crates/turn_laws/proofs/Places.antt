-- What a turn says of the table at a place, and leaves of it.
use Rattle.std.proofs.Common.{◌≡◌, ℕ, zero, suc, ◌+◌, List, [], ◌∷◌, map, Option, None, Some, refl}
use Rattle.std.proofs.Common.{ap, arith}
use Rattle.std.specs.Prelude.{slice_get, slice_index_or}
use Rattle.std.specs.Option.{option_map_or}
use Rattle.pushed_keys.specs.Stands.{stands}
use Rattle.pushed_keys.specs.Turns.{no_table, changes, last_after, marks_after}
use Rattle.pushed_keys.specs.declared.change.Turn.{Turn}
use Rattle.pushed_keys.specs.declared.pushed.Pushed.{Pushed}
use Rattle.pushed_keys.specs.declared.told.ToldTable.{ToldTable}
use Rattle.telling.specs.Told.{Told}
use Rattle.telling.specs.Telling.{TableTurn, table_at, table_turn, table_turns, told_after, turn_at}
use Rattle.telling.specs.Telling.{turns, updates}
use Rattle.turn_laws.specs.Written.{updates_at}

-- what a turn says of a table, from its set and what was told of it, by its place
abbrev pub turn_there : List (List (List ℕ)) → ℕ → Told → ℕ → Pushed → TableTurn
turn_there sets now told place table =
    table_turn (turn_at now told) (place + 1) table (slice_index_or sets place [])
    (table_at told place)

found : (turn : Turn) (sets : List (List (List ℕ))) (told : List ToldTable) (before : ℕ)
    (pushed : List Pushed) (place at : ℕ) (table : Pushed) → slice_get pushed place ≡ Some table
    → at ≡ before + place
    → slice_get (table_turns turn sets told before pushed) place
    ≡ Some (table_turn turn (at + 1) table (slice_index_or sets at [])
    (slice_index_or told at no_table))
unfolding table_turns
found turn sets told before [] place at table is here = absurd (cc is)
found turn sets told before (first ∷ pushed) zero at table is here =
    let same : first ≡ table = cc is in
    let there : before ≡ at = omega arith in
    λ i. Some (table_turn turn (there i + 1) (same i) (slice_index_or sets (there i) [])
    (slice_index_or told (there i) no_table))
found turn sets told before (first ∷ pushed) (suc place) at table is here =
    found turn sets told (before + 1) pushed place at table is (omega arith)

missing : (turn : Turn) (sets : List (List (List ℕ))) (told : List ToldTable) (before : ℕ)
    (pushed : List Pushed) (place : ℕ) → slice_get pushed place ≡ None
    → slice_get (table_turns turn sets told before pushed) place ≡ None
unfolding table_turns
missing turn sets told before [] place is = refl
missing turn sets told before (first ∷ pushed) zero is = absurd (cc is)
missing turn sets told before (first ∷ pushed) (suc place) is =
    missing turn sets told (before + 1) pushed place is

mapped : {A B : Type 0} (f : A → B) (xs : List A) (place : ℕ) (x : A) (d : B)
    → slice_get xs place ≡ Some x → slice_index_or (map f xs) place d ≡ f x
mapped f [] place x d is = absurd (cc is)
mapped f (y ∷ xs) zero x d is = ap f (let same : y ≡ x = cc is in same)
mapped f (y ∷ xs) (suc place) x d is = mapped f xs place x d is

unmapped : {A B : Type 0} (f : A → B) (xs : List A) (place : ℕ) (d : B)
    → slice_get xs place ≡ None → slice_index_or (map f xs) place d ≡ d
unmapped f [] place d is = refl
unmapped f (y ∷ xs) zero d is = absurd (cc is)
unmapped f (y ∷ xs) (suc place) d is = unmapped f xs place d is

pub turn_found : (pushed : List Pushed) (sets : List (List (List ℕ))) (now : ℕ) (told : Told)
    (place : ℕ) (table : Pushed) → slice_get pushed place ≡ Some table
    → slice_get (turns pushed sets now told) place ≡ Some (turn_there sets now told place table)
turn_found pushed sets now told place table is =
    found (turn_at now told) sets told.tables 0 pushed place place table is (omega arith)

pub said_there : (pushed : List Pushed) (sets : List (List (List ℕ))) (now : ℕ) (told : Told)
    (place : ℕ) (table : Pushed) → slice_get pushed place ≡ Some table
    → updates_at pushed sets now told place ≡ (turn_there sets now told place table).updates
said_there pushed sets now told place table is =
    ap (λ (o : Option TableTurn). option_map_or (λ t. t.updates) o [])
    (turn_found pushed sets now told place table is)

-- its updates are those of the changes of what stands side by side
pub updates_there : (pushed : List Pushed) (sets : List (List (List ℕ))) (now : ℕ) (told : Told)
    (place : ℕ) (table : Pushed) → slice_get pushed place ≡ Some table
    → updates_at pushed sets now told place ≡ updates table (table_at told place).last
    (changes table (turn_at now told)
    (stands (slice_index_or sets place []) (table_at told place).marks))
unfolding table_turn
updates_there pushed sets now told place table is =
    said_there pushed sets now told place table is

pub after_there : (pushed : List Pushed) (sets : List (List (List ℕ))) (now : ℕ) (told : Told)
    (place : ℕ) (table : Pushed) → slice_get pushed place ≡ Some table
    → table_at (told_after pushed sets now told) place
    ≡ (turn_there sets now told place table).after
unfolding told_after
after_there pushed sets now told place table is =
    mapped (λ (t : TableTurn). t.after) (turns pushed sets now told) place
    (turn_there sets now told place table) no_table
    (turn_found pushed sets now told place table is)

-- nothing is told of a table that isn't there
pub none_there : (pushed : List Pushed) (sets : List (List (List ℕ))) (now : ℕ) (told : Told)
    (place : ℕ) → slice_get pushed place ≡ None
    → table_at (told_after pushed sets now told) place ≡ no_table
unfolding told_after
none_there pushed sets now told place is =
    unmapped (λ (t : TableTurn). t.after) (turns pushed sets now told) place no_table
    (missing (turn_at now told) sets told.tables 0 pushed place is)

pub last_there : (pushed : List Pushed) (sets : List (List (List ℕ))) (now : ℕ) (told : Told)
    (place : ℕ) (table : Pushed) → slice_get pushed place ≡ Some table
    → (table_at (told_after pushed sets now told) place).last
    ≡ last_after (table_at told place).last (changes table (turn_at now told)
    (stands (slice_index_or sets place []) (table_at told place).marks))
unfolding table_turn
last_there pushed sets now told place table is =
    ap (λ (t : ToldTable). t.last) (after_there pushed sets now told place table is)

pub marks_there : (pushed : List Pushed) (sets : List (List (List ℕ))) (now : ℕ) (told : Told)
    (place : ℕ) (table : Pushed) → slice_get pushed place ≡ Some table
    → (table_at (told_after pushed sets now told) place).marks
    ≡ marks_after table (turn_at now told)
    (stands (slice_index_or sets place []) (table_at told place).marks)
unfolding table_turn
marks_there pushed sets now told place table is =
    ap (λ (t : ToldTable). t.marks) (after_there pushed sets now told place table is)
