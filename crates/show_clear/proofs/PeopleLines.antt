-- No line of what people are answered is empty or a refusal's, and an explained refusal is one
-- line.
use Rattle.std.proofs.Common.{◌≡◌, ℕ, Bool, true, false, ◌&&◌, ◌||◌, leb, if◌then◌else◌}
use Rattle.std.proofs.Common.{List, [], ◌∷◌, ◌++◌, length, map, take, Option, None, Some, codes}
use Rattle.std.proofs.Common.{refl, ap, sym, ◌∙◌, subst, append-nil, arith, inl, inr}
use Rattle.std.proofs.lemmas.Bool.{cases_Bool}
use Rattle.std.proofs.lemmas.Bool.Decides.{nat_tests}
use Rattle.std.specs.Prelude.{◌-◌, nat_lt, not, ◌==◌}
use Rattle.std.specs.Fmt.{decimal}
use Rattle.std.specs.List.{list_all}
use Rattle.std.specs.Str.{bytes_eq}
use Rattle.agg_types.specs.Check.{config_faults}
use Rattle.agg_types.specs.Col.{col_name}
use Rattle.agg_types.specs.declared.column.Col.{Col}
use Rattle.agg_types.specs.declared.config.Filter.{Filter}
use Rattle.agg_types.specs.declared.config.Shape.{Shape}
use Rattle.agg_types.specs.declared.limits.TheConstants.{LONGEST_COMMAND_LINE, LONGEST_NAME}
use Rattle.agg_types.specs.declared.limits.TheConstants.{MOST_CONDS, MOST_FILTERS}
use Rattle.fleet_model.specs.Answers.{filter_of}
use Rattle.fleet_model.specs.State.{State}
use Rattle.line_words.specs.Numbered.{word_at}
use Rattle.line_words.specs.Words.{lines_of, words}
use Rattle.line_words.proofs.TextLines.{is_line_byte, lines_back}
use Rattle.line_words.proofs.WordsBack.{both}
use Rattle.answer_text.specs.Lists.{change_ahead, distance_text, title_text}
use Rattle.answer_text.specs.Tables.{ms_or_never, shape_of}
use Rattle.show_clear.specs.AnswerLines.{AreAnswerLines, is_answer_line}
use Rattle.show_clear.specs.Explained.{add_form, clear_form, del_form, lone_form, no_word}
use Rattle.show_clear.specs.Explained.{status_form}
use Rattle.show_clear.specs.Explained.{explained_refusal, explanation, form_of, form_text}
use Rattle.show_clear.specs.Explained.{kind_text, listed, long_text, names_text, no_command}
use Rattle.show_clear.specs.Explained.{no_filter_named, no_name, no_peer_named, no_rank_named}
use Rattle.show_clear.specs.Explained.{is_begun, no_table, not_added, printed, quoted, shape_in}
use Rattle.show_clear.specs.Explained.{unknown_text}
use Rattle.show_clear.specs.Explained.{show_form, stored_text, words_text}
use Rattle.show_clear.specs.Explained.{refused_text, word_refused}
use Rattle.show_clear.specs.Parse.{without_returns}
use Rattle.show_clear.specs.People.{IsPeoplesAnswer, TellsPeople}
use Rattle.show_clear.specs.Refusal.{fault_name, fault_number}
use Rattle.show_clear.specs.declared.command.Command.{Command}
use Rattle.show_clear.specs.declared.command.Command.TheVariants.{Ask, Change as Changes}
use Rattle.show_clear.specs.declared.command.Question.{Question}
use Rattle.show_clear.specs.declared.command.Question.TheVariants.{Tables, Table, FilterKeys}
use Rattle.show_clear.specs.declared.command.Question.TheVariants.{Ranking, NextChange, OneKey}
use Rattle.show_clear.specs.declared.fault.CommandFault.{CommandFault}
use Rattle.show_clear.specs.declared.fault.CommandFault.TheVariants as faults
use Rattle.show_clear.specs.declared.quoting.TheConstants.{MOST_QUOTED}
use Rattle.show_clear.specs.declared.refused.Refused.{Refused}
use Rattle.show_clear.proofs.AnswerLines.{NamesStay, command_lines, names_of, question_lines}
use Rattle.show_clear.proofs.AnswerLines.{title_stays}
use Rattle.show_clear.proofs.AnswerPieces.{HasLines, answer_lines, at_end, behind, col_stays}
use Rattle.show_clear.proofs.AnswerPieces.{kind_stays, labelled, line_of, ms_stay, number_stays}
use Rattle.show_clear.proofs.AnswerPieces.{stays}
use Rattle.show_clear.proofs.KeyBytes.{and_true}

-- ---- pieces

line_byte : (byte : ℕ) → leb 32 byte ≡ true → is_line_byte byte ≡ true
line_byte byte high = grind (arith, nat_tests)

printed_stays : (byte : ℕ) → is_line_byte (printed byte) ≡ true
printed_stays byte =
    elim (cases_Bool (leb 32 byte && leb byte 126)) [
      | inl prints ↦ rw prints (line_byte byte (both (leb 32 byte) (leb byte 126) prints).0)
      | inr other ↦ rw other refl
    ]

shown_stays : (bytes : List ℕ) → list_all is_line_byte (map printed bytes) ≡ true
shown_stays [] = refl
shown_stays (byte ∷ bytes) =
    and_true (is_line_byte (printed byte)) (list_all is_line_byte (map printed bytes))
    (printed_stays byte) (shown_stays bytes)

quoted_stays : (word : List ℕ) → list_all is_line_byte (quoted word) ≡ true
quoted_stays word =
    let shown = map printed (take MOST_QUOTED word) in
    labelled (codes "\"" ++ shown) (codes "\"")
    (labelled (codes "\"") shown refl (shown_stays (take MOST_QUOTED word))) refl

-- a word between two fixed texts
around : (before word after : List ℕ) → list_all is_line_byte before ≡ true
    → list_all is_line_byte after ≡ true
    → list_all is_line_byte (before ++ quoted word ++ after) ≡ true
around before word after front back =
    labelled (before ++ quoted word) after
    (labelled before (quoted word) front (quoted_stays word)) back

-- one before a fixed text
ahead_of : (word after : List ℕ) → list_all is_line_byte after ≡ true
    → list_all is_line_byte (quoted word ++ after) ≡ true
ahead_of word after back = labelled (quoted word) after (quoted_stays word) back

listed_stay : (before : List ℕ) (names : List (List ℕ)) → list_all is_line_byte before ≡ true
    → list_all (list_all is_line_byte) names ≡ true
    → list_all is_line_byte (listed before names) ≡ true
listed_stay before [] front all = refl
listed_stay before (name ∷ names) front all =
    let h = both (list_all is_line_byte name) (list_all (list_all is_line_byte) names) all in
    labelled (before ++ name) (listed (codes ", ") names) (labelled before name front h.0)
    (listed_stay (codes ", ") names refl h.1)

names_stay : (label : List ℕ) (names : List (List ℕ)) → list_all is_line_byte label ≡ true
    → list_all (list_all is_line_byte) names ≡ true
    → list_all is_line_byte (names_text label names) ≡ true
names_stay label [] front all = refl
names_stay label (name ∷ names) front all =
    labelled label (listed [] (name ∷ names)) front (listed_stay [] (name ∷ names) refl all)

all_named : {A : Type 0} (name_of : A → List ℕ) (xs : List A)
    → list_all (stays name_of) xs ≡ true
    → list_all (list_all is_line_byte) (map name_of xs) ≡ true
all_named name_of [] all = refl
all_named name_of (x ∷ xs) all =
    let h = both (stays name_of x) (list_all (stays name_of) xs) all in
    and_true (list_all is_line_byte (name_of x)) (list_all (list_all is_line_byte) (map name_of xs))
    h.0 (all_named name_of xs h.1)

cols_named : (cols : List (Col × ℕ))
    → list_all (list_all is_line_byte) (map (λ col. col_name col.0) cols) ≡ true
cols_named [] = refl
cols_named (col ∷ cols) =
    and_true (list_all is_line_byte (col_name col.0))
    (list_all (list_all is_line_byte) (map (λ c. col_name c.0) cols)) (col_stays col.0)
    (cols_named cols)

-- a text that may stand in a line
record Fine (text : List ℕ) : Type 0 where
  pub all : list_all is_line_byte text ≡ true

fine : (text : List ℕ) → list_all is_line_byte text ≡ true → Fine text
fine text all = record { all = all }

-- whichever of two texts it is
either : {x y : List ℕ} (b : Bool) → Fine x → Fine y → Fine (if b then x else y)
either true front back = front
either false front back = back

-- ---- forms

status_stays : (second : List ℕ) → Fine (status_form second)
status_stays second =
    either (bytes_eq second (codes "info")) (fine (codes "show info") refl)
    (either (bytes_eq second (codes "peers")) (fine (codes "show peers [<peer>]") refl)
    (either (bytes_eq second (codes "config")) (fine (codes "show config") refl)
    (either (bytes_eq second (codes "filters")) (fine (codes "show filters") refl)
    (either (bytes_eq second (codes "ranks")) (fine (codes "show ranks") refl) (fine [] refl)))))

show_stays : (second : List ℕ) → Fine (show_form second)
show_stays second =
    either (bytes_eq second (codes "table"))
    (fine (codes "show table [<table> [key <key> | data.<column> <operator> <value> ..]]") refl)
    (either (bytes_eq second (codes "filter")) (fine (codes "show filter <filter>") refl)
    (either (bytes_eq second (codes "next")) (fine (codes "show next <filter>") refl)
    (either (bytes_eq second (codes "rank")) (fine (codes "show rank <rank>") refl)
    (either (bytes_eq second (codes "key")) (fine (codes "show key <table> <key>") refl)
    (status_stays second)))))

clear_stays : (second : List ℕ) → Fine (clear_form second)
clear_stays second =
    either (bytes_eq second (codes "table"))
    (fine (codes "clear table <table> [key <key> | data.<column> <operator> <value> ..]") refl)
    (fine [] refl)

add_stays : (second : List ℕ) → Fine (add_form second)
add_stays second =
    either (bytes_eq second (codes "filter"))
    (fine (codes "add filter <filter> <table> data.<column> <operator> <value> ..") refl)
    (fine [] refl)

del_stays : (second : List ℕ) → Fine (del_form second)
del_stays second =
    either (bytes_eq second (codes "filter")) (fine (codes "del filter <filter>") refl)
    (fine [] refl)

lone_stays : (first : List ℕ) → Fine (lone_form first)
lone_stays first =
    either (bytes_eq first (codes "help")) (fine (codes "help") refl)
    (either (bytes_eq first (codes "quit")) (fine (codes "quit") refl) (fine [] refl))

form_stays : (first second : List ℕ) → Fine (form_of first second)
form_stays first second =
    either (bytes_eq first (codes "show")) (show_stays second)
    (either (bytes_eq first (codes "clear")) (clear_stays second)
    (either (bytes_eq first (codes "add")) (add_stays second)
    (either (bytes_eq first (codes "del")) (del_stays second) (lone_stays first))))

no_word_stays : (first second : List ℕ) → list_all is_line_byte (no_word first second) ≡ true
no_word_stays first [] =
    around (codes "a word is missing behind ") first (codes "; see help") refl refl
no_word_stays first (byte ∷ bytes) =
    labelled (quoted (byte ∷ bytes) ++ codes " is no word behind " ++ quoted first)
    (codes "; see help") (labelled (quoted (byte ∷ bytes) ++ codes " is no word behind ")
    (quoted first) (ahead_of (byte ∷ bytes) (codes " is no word behind ") refl)
    (quoted_stays first)) refl

unknown_stays : (first second : List ℕ) → Fine (no_command first second)
unknown_stays first second =
    either (is_begun first) (fine (no_word first second) (no_word_stays first second))
    (fine (unknown_text first) (ahead_of first (codes " is no command; see help") refl))

missed_stays : (first second form : List ℕ) → list_all is_line_byte form ≡ true
    → list_all is_line_byte (form_text first second form) ≡ true
missed_stays first second [] all = (unknown_stays first second).all
missed_stays first second (byte ∷ form) all =
    labelled (codes "the form is: ") (byte ∷ form) refl all

-- ---- names

table_stays : (state : State) (name : List ℕ) → NamesStay state
    → list_all is_line_byte (no_table state name) ≡ true
table_stays state name names =
    labelled (codes "no table " ++ quoted name ++ codes " is configured") _
    (around (codes "no table ") name (codes " is configured") refl refl)
    (names_stay (codes "; tables are: ") (map (λ shape. shape.name) state.config.tables) refl
    (all_named (λ shape. shape.name) state.config.tables names.tables))

filter_stays : (state : State) (name : List ℕ) → NamesStay state
    → list_all is_line_byte (no_filter_named state name) ≡ true
filter_stays state name names =
    labelled (codes "no filter " ++ quoted name ++ codes " exists") _
    (around (codes "no filter ") name (codes " exists") refl refl)
    (names_stay (codes "; filters are: ") (map (λ filter. filter.name) state.config.filters) refl
    (all_named (λ filter. filter.name) state.config.filters names.filters))

rank_stays : (state : State) (name : List ℕ) → NamesStay state
    → list_all is_line_byte (no_rank_named state name) ≡ true
rank_stays state name names =
    labelled (codes "no ranked list " ++ quoted name ++ codes " is configured") _
    (around (codes "no ranked list ") name (codes " is configured") refl refl)
    (names_stay (codes "; ranked lists are: ") (map (λ rank. rank.name) state.config.ranks) refl
    (all_named (λ rank. rank.name) state.config.ranks names.ranks))

name_stays : (state : State) (ws : List (List ℕ)) (name : List ℕ) → NamesStay state
    → Fine (no_name state ws name)
name_stays state ws name names =
    either (bytes_eq (word_at 1 ws) (codes "add"))
    (fine (no_table state name) (table_stays state name names))
    (either (bytes_eq (word_at 1 ws) (codes "del")) (fine (not_added name)
    (around (codes "no filter ") name (codes " was added; those of the configuration stay") refl
    refl))
    (either (bytes_eq (word_at 2 ws) (codes "table") || bytes_eq (word_at 2 ws) (codes "key"))
    (fine (no_table state name) (table_stays state name names))
    (either (bytes_eq (word_at 2 ws) (codes "rank"))
    (fine (no_rank_named state name) (rank_stays state name names))
    (either (bytes_eq (word_at 2 ws) (codes "peers")) (fine (no_peer_named name)
    (around (codes "no peer ") name (codes " is configured; see show peers") refl refl))
    (fine (no_filter_named state name) (filter_stays state name names))))))

stored_stays : (shape : Option Shape) → list_all is_line_byte (stored_text shape) ≡ true
stored_stays None = refl
stored_stays (Some shape) =
    listed_stay [] (map (λ col. col_name col.0) shape.cols) refl (cols_named shape.cols)

kinds_stay : (shape : Option Shape) → list_all is_line_byte (kind_text shape) ≡ true
kinds_stay None = refl
kinds_stay (Some shape) = kind_stays shape.kind

-- ---- explanations

words_stay : (state : State) (ws : List (List ℕ)) (wrong : List ℕ) (fault : CommandFault)
    → NamesStay state → list_all is_line_byte (words_text state ws wrong fault) ≡ true
words_stay state ws wrong faults.Empty names = refl
words_stay state ws wrong faults.Unknown names =
    missed_stays (word_at 1 ws) (word_at 2 ws) (form_of (word_at 1 ws) (word_at 2 ws))
    (form_stays (word_at 1 ws) (word_at 2 ws)).all
words_stay state ws wrong faults.NoTable names = (name_stays state ws wrong names).all
words_stay state ws wrong faults.BadColumn names =
    labelled (quoted wrong
    ++ codes " names no column that the table stores; it stores: ")
    (stored_text (shape_in state ws))
    (ahead_of wrong
    (codes " names no column that the table stores; it stores: ") refl)
    (stored_stays (shape_in state ws))
words_stay state ws wrong faults.BadOperator names =
    ahead_of wrong
    (codes " stands where one of eq, ne, lt, le, gt, ge is expected") refl
words_stay state ws wrong faults.BadValue names =
    ahead_of wrong
    (codes " stands where 1 to 20 digits are expected, up to 18446744073709551615") refl
words_stay state ws wrong faults.BadKey names =
    labelled (quoted wrong ++ codes " is no key of type ") (kind_text (shape_in state ws))
    (ahead_of wrong (codes " is no key of type ") refl) (kinds_stay (shape_in state ws))
words_stay state ws wrong faults.TooMany names =
    labelled (codes "there may be " ++ decimal MOST_CONDS) (codes " conditions")
    (labelled (codes "there may be ") (decimal MOST_CONDS) refl (number_stays MOST_CONDS)) refl
words_stay state ws wrong faults.NoMemory names = refl
words_stay state ws wrong faults.BadName names =
    labelled (quoted wrong ++ codes " can't name a filter: a name has 1 to "
    ++ decimal LONGEST_NAME) (codes " bytes, each of 33 to 126")
    (labelled (quoted wrong ++ codes " can't name a filter: a name has 1 to ")
    (decimal LONGEST_NAME)
    (ahead_of wrong (codes " can't name a filter: a name has 1 to ") refl)
    (number_stays LONGEST_NAME)) refl
words_stay state ws wrong faults.Exists names =
    around (codes "a filter ") wrong (codes " exists already") refl refl
words_stay state ws wrong faults.Full names =
    labelled (codes "there may be " ++ decimal MOST_FILTERS)
    (codes " filters; del filter <filter> takes away one that was added")
    (labelled (codes "there may be ") (decimal MOST_FILTERS) refl (number_stays MOST_FILTERS)) refl

long_stays : true ≡ true → list_all is_line_byte long_text ≡ true
long_stays any =
    labelled (codes "the line has more than " ++ decimal LONGEST_COMMAND_LINE) (codes " bytes")
    (labelled (codes "the line has more than ") (decimal LONGEST_COMMAND_LINE) refl
    (number_stays LONGEST_COMMAND_LINE)) refl

explanation_stays : (state : State) (line : List ℕ) (refused : Refused) → NamesStay state
    → Fine (explanation state line refused)
explanation_stays state line refused names =
    let ws = words (without_returns line) in
    either (nat_lt LONGEST_COMMAND_LINE (length (without_returns line)))
    (fine long_text (long_stays refl))
    (fine (refused_text state refused ws)
    (words_stay state ws (word_refused refused.at ws) refused.fault names))

fault_stays : (fault : CommandFault) → list_all is_line_byte (fault_name fault) ≡ true
fault_stays faults.Empty = refl
fault_stays fault = refl

and_false : (b : Bool) → (b && false) ≡ false
and_false true = refl
and_false false = refl

-- a line of these bytes that begins as a refusal's
one_refusal : (rest : List ℕ) → list_all is_line_byte (codes "refused " ++ rest) ≡ true
    → map is_answer_line (lines_of ((codes "refused " ++ rest) ++ codes "\n")) ≡ false ∷ []
one_refusal rest all =
    let line = codes "refused " ++ rest in
    ap (λ text. map is_answer_line (lines_of text)) (sym (append-nil (line ++ codes "\n")))
    ∙ (ap (λ lines. map is_answer_line lines)
    (lines_back (line ∷ []) (and_true (list_all is_line_byte line) true all refl))
    ∙ ap (λ b. b ∷ []) (and_false (not (length line == 0))))

pub lines_explained : (state : State) (line : List ℕ) (refused : Refused)
    → config_faults state.config ≡ []
    → map is_answer_line (lines_of (explained_refusal state line refused)) ≡ false ∷ []
lines_explained state line refused none =
    let fault = refused.fault in
    let number = decimal (fault_number fault) in
    let told = explanation state line refused in
    one_refusal (number ++ codes " " ++ fault_name fault ++ codes ": " ++ told)
    (labelled (codes "refused " ++ number ++ codes " " ++ fault_name fault ++ codes ": ") told
    (labelled (codes "refused " ++ number ++ codes " " ++ fault_name fault) (codes ": ")
    (labelled (codes "refused " ++ number ++ codes " ") (fault_name fault)
    (labelled (codes "refused " ++ number) (codes " ")
    (labelled (codes "refused ") number refl (number_stays (fault_number fault))) refl)
    (fault_stays fault)) refl)
    (explanation_stays state line refused (names_of state none)).all)

-- ---- answers

distance_stays : (now : ℕ) (t : Option ℕ) → list_all is_line_byte (distance_text now t) ≡ true
distance_stays now None = refl
distance_stays now (Some t) =
    labelled (codes " in:") (decimal (t - now)) refl (number_stays (t - now))

ahead_lines : (filter : Filter) (shape : Shape) (now : ℕ) (t : Option ℕ)
    → list_all is_line_byte filter.name ≡ true → list_all is_line_byte shape.name ≡ true
    → HasLines (change_ahead filter shape now t)
ahead_lines filter shape now t name its =
    let title = title_text (codes "# next: ") filter.name shape in
    line_of 35 _ (behind (title ++ codes ", at:" ++ ms_or_never t ++ distance_text now t)
    (codes "\n")
    (labelled (title ++ codes ", at:" ++ ms_or_never t) (distance_text now t)
    (labelled (title ++ codes ", at:") (ms_or_never t)
    (labelled title (codes ", at:")
    (title_stays (codes "# next: ") filter.name shape refl name its) refl)
    (ms_stay t)) (distance_stays now t)) at_end) refl refl

told_lines : (state : State) (question : Question) (text : List ℕ) → NamesStay state
    → TellsPeople state question text → HasLines text
told_lines state Tables text names is = question_lines state Tables text names is
told_lines state (Table table sel) text names is =
    question_lines state (Table table sel) text names is
told_lines state (FilterKeys at) text names is =
    question_lines state (FilterKeys at) text names is
told_lines state (Ranking at) text names is = question_lines state (Ranking at) text names is
told_lines state (OneKey table key) text names is =
    question_lines state (OneKey table key) text names is
told_lines state (NextChange at) text names is =
    let filter = filter_of state at in
    subst HasLines (sym is.2) (ahead_lines filter (shape_of state filter.table) state.moment is.0
    (names.filter at) (names.shape filter.table))

peoples_lines : (state : State) (command : Command) (text : List ℕ) → NamesStay state
    → IsPeoplesAnswer state command text → HasLines text
peoples_lines state (Ask question) text names is = told_lines state question text names is
peoples_lines state (Changes change) text names is =
    command_lines state (Changes change) text names is

pub lines_told : (state : State) (command : Command) (text : List ℕ)
    → config_faults state.config ≡ [] → IsPeoplesAnswer state command text → AreAnswerLines text
lines_told state command text none is =
    answer_lines text (peoples_lines state command text (names_of state none) is)
