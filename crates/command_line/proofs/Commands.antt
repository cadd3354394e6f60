-- Words that clap takes name one of the program's commands.
use Rattle.std.proofs.Common.{◌≡◌, ℕ, Bool, true, false, cond, List, [], ◌∷◌, fold, Option, None}
use Rattle.std.proofs.Common.{Some, option_map, is_some, refl, sym, codes, inl, inr, subst}
use Rattle.std.specs.Prelude.{⊤}
use Rattle.std.specs.Str.{bytes_eq}
use Rattle.clap.specs.Lexer.{long_of, short_of}
use Rattle.clap.specs.Faults.{check_fault, defaults_fault, entered_fault, fault_of}
use Rattle.clap.specs.Faults.{is_simple_and_free, settle_fault, other_fault, step_fault, turn_fault}
use Rattle.clap.specs.Faults.{walk_fault}
use Rattle.clap.specs.Kinds.{Kinds, or_else}
use Rattle.clap.specs.Simple.{Shape, argument_words, built, entered, is_simple, names_of}
use Rattle.clap.specs.Simple.{subcommand_of}
use Rattle.clap.specs.Walk.{Held, Names, Outcome, Row, Rule, Step, Text, Waiting, Walk, after_flag}
use Rattle.clap.specs.Walk.{after_step, answers_to, done, finished, idle, long_or_other, next}
use Rattle.clap.specs.Walk.{nothing_held, option as waits_for, plain, plain_word, positional}
use Rattle.clap.specs.Walk.{refused, settled, short_or_plain, subcommand, subcommand_met}
use Rattle.clap.specs.Walk.{subcommand_or_other, trailing, value, waits, walk, walk_from, walked}
use Rattle.clap.proofs.OnLiterals.{clap_on_literals}
use Rattle.command_line.specs.Asked.{IsCommand, program}

-- ---- the first of several faults

none_first : (a b : Kinds) → or_else a b ≡ [] → (a ≡ []) × (b ≡ [])
none_first [] b e = (refl, e)
none_first (k ∷ ks) b e = absurd (cc)

-- ---- which steps name a command

-- a step that names no command
abbrev NamesNone : Step → Type 0
NamesNone (next waiting) = ⊤
NamesNone (trailing position) = ⊤
NamesNone (subcommand name) = ⊥
NamesNone value = ⊤

plain_names_none : (c : List Rule) (waiting : Waiting) (word : Text) (h : Held)
    → NamesNone (plain_word c waiting word h).1
plain_names_none c idle word h = tt
plain_names_none c (waits_for id) word h = tt
plain_names_none c positional word h = tt

flag_names_none : (c : List Rule) (waiting : Waiting) (word : Text) (h : Held) (outcome : Outcome)
    → NamesNone (after_flag c waiting word h outcome).1
flag_names_none c waiting word h done = tt
flag_names_none c waiting word h (waits id) = tt
flag_names_none c waiting word h plain = plain_names_none c waiting word h
flag_names_none c waiting word h refused = plain_names_none c waiting word h

other_names_none : (c : List Rule) (waiting : Waiting) (word : Text)
    (long : Option (Text × Option Text)) (h : Held)
    → NamesNone (long_or_other c waiting word long h).1
other_names_none c waiting word (Some p) h = flag_names_none c waiting word _ _
other_names_none c waiting word None h = go (short_of word)
  where
    go : (short : Option Text) → NamesNone (short_or_plain c waiting word short h).1
    go (Some flags) = flag_names_none c waiting word _ _
    go None = plain_names_none c waiting word h

-- ---- a walk stops at a command

abbrev top : Shape
top = (built program).top

abbrev names : Names
names = names_of (built program)

-- a walk goes on, or stopped at a command
abbrev StopsWell : Option (Text × List Text) → Type 0
StopsWell None = ⊤
StopsWell (Some stop) = IsCommand stop.0

-- a step that names no command doesn't stop
goes_on : (word : Text) (held : Held) (waiting : Waiting) (position : ℕ) (is_trailing : Bool)
    (h : Held) (step : Step) → NamesNone step
    → StopsWell (after_step top.rules word (record {
      held = held;
      waiting = waiting;
      position =
          position;
      is_trailing = is_trailing;
      stopped = None;
    }) h step).stopped
goes_on word held waiting position is_trailing h (next after) _ = tt
goes_on word held waiting position is_trailing h (trailing after) _ = tt
goes_on word held waiting position is_trailing h (subcommand name) bad = absurd bad
goes_on word held waiting position is_trailing h value _ = tt

-- the walk before one more word
abbrev walk_at : Held → Waiting → ℕ → Bool → Option (Text × List Text) → Walk
walk_at held waiting position is_trailing stopped = record {
  held = held;
  waiting = waiting;
  position = position;
  is_trailing = is_trailing;
  stopped = stopped;
}

-- where the walk is after a word that names this command, or none
abbrev after_word : Option Text → Text → Held → Waiting → ℕ → Walk
after_word met word held waiting position =
    let found = subcommand_or_other top.rules met waiting position word held in
    after_step top.rules word (walk_at held waiting position false None) found.0 found.1

-- what is wrong with a word that names this command, or none
abbrev word_wrong : Option Text → Text → Held → Waiting → ℕ → Kinds
word_wrong met word held waiting position =
    or_else (other_fault top met word held)
    (step_fault top position (subcommand_or_other top.rules met waiting position word held).0
    (subcommand_or_other top.rules met waiting position word held).1)

no_name : (word : Text) (held : Held) (waiting : Waiting) (position : ℕ)
    → StopsWell (after_word None word held waiting position).stopped
no_name word held waiting position = go (bytes_eq word (45 ∷ 45 ∷ []))
  where
    go : (b : Bool) → StopsWell (after_step top.rules word
        (walk_at held waiting position false None)
        (cond b (held, trailing position) (long_or_other top.rules waiting word (long_of word)
        held)).0 (cond b (held, trailing position)
        (long_or_other top.rules waiting word (long_of word) held)).1).stopped
    go true = tt
    go false = goes_on word held waiting position false _ _
        (other_names_none top.rules waiting word (long_of word) held)

-- the first of the five names for which its test holds
abbrev met_by : (a b c d help : Bool) → Option Text
met_by a b c d help =
    option_map (λ (s : Text × List Text). s.0) (cond a (Some (codes "replay", []))
    (cond b (Some (codes "import", [])) (cond c (Some (codes "check", []))
    (cond d (Some (codes "listen", [])) (cond help (Some (codes "help", [])) None)))))

by_name : (word : Text) (held : Held) (position : ℕ) (a b c d help : Bool)
    → word_wrong (met_by a b c d help) word held idle position ≡ []
    → StopsWell (after_word (met_by a b c d help) word held idle position).stopped
by_name word held position true b c d help e = inl refl
by_name word held position false true c d help e = inr (inl refl)
by_name word held position false false true d help e = inr (inr (inl refl))
by_name word held position false false false true help e = inr (inr (inr refl))
by_name word held position false false false false true e = absurd (cc)
by_name word held position false false false false false e = no_name word held idle position

one_word : (word : Text) (held : Held) (waiting : Waiting) (position : ℕ)
    → word_wrong (subcommand_met names waiting word) word held waiting position ≡ []
    → StopsWell (after_word (subcommand_met names waiting word) word held waiting position).stopped
one_word word held idle position e =
    by_name word held position (answers_to word (codes "replay", []))
    (answers_to word (codes "import", [])) (answers_to word (codes "check", []))
    (answers_to word (codes "listen", [])) (answers_to word (codes "help", [])) e
one_word word held (waits_for id) position e = no_name word held (waits_for id) position
one_word word held positional position e = no_name word held positional position

turn : (word : Text) (held : Held) (waiting : Waiting) (position : ℕ) (is_trailing : Bool)
    (stopped : Option (Text × List Text)) → StopsWell stopped
    → turn_fault top names (walk_at held waiting position is_trailing stopped) word ≡ []
    → StopsWell (walked top.rules names (walk_at held waiting position is_trailing stopped)
    word).stopped
unfolding walked
turn word held waiting position is_trailing (Some stop) well e = well
turn word held waiting position true None well e = tt
turn word held waiting position false None well e = one_word word held waiting position e

walk_stops : (words : List Text) (w : Walk) → StopsWell w.stopped → walk_fault top names w words
    ≡ [] → StopsWell (fold (walked top.rules names) w words).stopped
unfolding walk_fault
walk_stops [] w well e = well
walk_stops (word ∷ rest) w well e =
    let both = none_first (turn_fault top names w word) _ e in
    walk_stops rest _ (turn word w.held w.waiting w.position w.is_trailing w.stopped well both.0)
    both.1

-- ---- what is entered

-- a command was entered
abbrev pub EntersCommand : Option (Text × List Row) → Type 0
EntersCommand None = ⊥
EntersCommand (Some command) = IsCommand command.0

entered_well : (stop : Option (Text × List Text)) → StopsWell stop
    → is_some (entered (built program) stop) ≡ true → EntersCommand (entered (built program) stop)
entered_well None well e = absurd (cc)
entered_well (Some stop) (inl name) e =
    subst (λ (n : Text). EntersCommand (entered (built program) (Some (n, stop.1))))
    (sym name) (inl refl)
entered_well (Some stop) (inr (inl name)) e =
    subst (λ (n : Text). EntersCommand (entered (built program) (Some (n, stop.1))))
    (sym name) (inr (inl refl))
entered_well (Some stop) (inr (inr (inl name))) e =
    subst (λ (n : Text). EntersCommand (entered (built program) (Some (n, stop.1))))
    (sym name) (inr (inr (inl refl)))
entered_well (Some stop) (inr (inr (inr name))) e =
    subst (λ (n : Text). EntersCommand (entered (built program) (Some (n, stop.1))))
    (sym name) (inr (inr (inr refl)))

-- where the checks after the walk pass, a command was entered
checked : (rows : List Row) (has : Bool) → check_fault top rows has ≡ [] → has ≡ true
checked rows true e = refl
checked rows false e = absurd (cc)

pub command_entered : (words : List Text) → fault_of program words ≡ []
    → EntersCommand (subcommand_of program words)
command_entered words e =
    let rest = argument_words program words in
    let end = walk top.rules names nothing_held rest in
    let rows = finished top.rules end.held in
    let has = is_some (entered (built program) end.stopped) in
    let walks = none_first (walk_fault top names (walk_from nothing_held) rest) _ e in
    let below = none_first (entered_fault (built program) end.stopped) _ walks.1 in
    let settles = none_first (settle_fault top.rules top.args_override_self end.held) _ below.1 in
    let defaults = none_first (defaults_fault (settled top.rules end.held).rows top.rules)
    _ settles.1 in
    entered_well end.stopped (walk_stops rest (walk_from nothing_held) tt walks.0)
    (checked rows has defaults.1)

-- clap reads the program exactly
pub is_read : is_simple_and_free program ≡ true
unfolding clap_on_literals
is_read = refl

pub is_plain : is_simple program ≡ true
is_plain = refl
