-- No line of an answer is empty or a refusal's.
use Rattle.std.proofs.Common.{◌≡◌, ℕ, ◌+◌, ◌≤◌, true, false, eqb}
use Rattle.std.proofs.Common.{List, [], ◌∷◌, ◌++◌, length, map, Option, None, Some, codes}
use Rattle.std.proofs.Common.{refl, sym, subst, append_assoc, arith, inl, inr}
use Rattle.std.proofs.lemmas.Bool.{cases_Bool}
use Rattle.std.proofs.lemmas.Bool.Decides.{nat_tests}
use Rattle.std.specs.Fmt.{decimal, digits}
use Rattle.std.specs.List.{flat_map, list_all}
use Rattle.agg_types.specs.Check.{config_faults, each, filter_faults, peer_faults, rank_faults}
use Rattle.agg_types.specs.Check.{table_faults}
use Rattle.agg_types.specs.Kind.{kind_name}
use Rattle.agg_types.specs.declared.check.ConfigFault.{ConfigFault}
use Rattle.agg_types.specs.declared.column.Col.{Col}
use Rattle.agg_types.specs.declared.config.Cond.{Cond}
use Rattle.agg_types.specs.declared.config.Filter.{Filter}
use Rattle.agg_types.specs.declared.config.Rank.{Rank}
use Rattle.agg_types.specs.declared.config.Shape.{Shape}
use Rattle.agg_types.specs.declared.event.Select.{Select}
use Rattle.agg_types.specs.declared.event.Select.TheVariants.{All, One, Conds}
use Rattle.fleet_model.specs.Answers.{filter_of, keys_of, listed, no_filter, set_at, summed}
use Rattle.fleet_model.specs.Ranking.{no_rank, rank_of, ranked}
use Rattle.fleet_model.specs.State.{State}
use Rattle.fleet_model.specs.declared.summed.Summed.{Summed}
use Rattle.key_text.specs.Printed.{key_text}
use Rattle.line_words.specs.Numbers.{is_decimal}
use Rattle.line_words.specs.Words.{lines_of}
use Rattle.line_words.proofs.Checked.{HasName, both_none, faultless, filter_fits, rank_fits}
use Rattle.line_words.proofs.Checked.{peer_named, table_fits}
use Rattle.line_words.proofs.TextLines.{is_line_byte}
use Rattle.line_words.proofs.WordsBack.{both}
use Rattle.answer_text.specs.Lists.{change_text, held_text, key_line, period_of, place_text}
use Rattle.answer_text.specs.Lists.{places_text, ranking_text, title_text}
use Rattle.answer_text.specs.Tables.{cell_text, cells_text, column_text, counts_text, heading}
use Rattle.answer_text.specs.Tables.{ms_or_never, no_shape, row_text, shape_of, sums_text}
use Rattle.show_clear.specs.Answer.{IsAnswer, IsAnswerTo, all_hold}
use Rattle.show_clear.specs.Answer.{headings, line_if}
use Rattle.show_clear.specs.Answer.{rows_text}
use Rattle.show_clear.specs.AnswerLines.{AreAnswerLines, is_answer_line}
use Rattle.show_clear.specs.Refusal.{refusal_text}
use Rattle.show_clear.specs.declared.command.Command.{Command}
use Rattle.show_clear.specs.declared.command.Command.TheVariants.{Ask, Change as Changes}
use Rattle.show_clear.specs.declared.command.Question.{Question}
use Rattle.show_clear.specs.declared.command.Question.TheVariants.{Tables, Table, FilterKeys}
use Rattle.show_clear.specs.declared.command.Question.TheVariants.{Ranking, NextChange, OneKey}
use Rattle.show_clear.specs.declared.fault.CommandFault.{CommandFault}
use Rattle.show_clear.specs.declared.fault.CommandFault.TheVariants as faults
use Rattle.show_clear.proofs.KeyLines.{key_text_lines}
use Rattle.show_clear.proofs.KeyBytes.{and_true, decimal_digits}
use Rattle.show_clear.proofs.KeyBytes.{decimal_some}
use Rattle.show_clear.proofs.AnswerPieces.{Ends, HasLines, answer_lines, at_end, at_position, behind}
use Rattle.show_clear.proofs.AnswerPieces.{cell_stays, cells_stay, column_stays, flat_lines}
use Rattle.show_clear.proofs.AnswerPieces.{key_stays, kind_stays, labelled, line_of, more_lines}
use Rattle.show_clear.proofs.AnswerPieces.{ms_stay, name_stays, no_lines, number_stays, stays}

-- ---- headings

counts_end : (size used : ℕ) → Ends (counts_text size used)
counts_end size used =
    behind (codes ", size:" ++ decimal size ++ codes ", used:" ++ decimal used) (codes "\n")
    (labelled (codes ", size:" ++ decimal size ++ codes ", used:") (decimal used)
    (labelled (codes ", size:" ++ decimal size) (codes ", used:")
    (labelled (codes ", size:") (decimal size) refl (number_stays size)) refl)
    (number_stays used)) at_end

heading_lines : (shape : Shape) (used : ℕ) → list_all is_line_byte shape.name ≡ true
    → HasLines (heading shape used)
heading_lines shape used name =
    line_of 35 _ (behind (codes "# table: " ++ shape.name ++ codes ", type: "
    ++ kind_name shape.kind) (counts_text shape.size used)
    (labelled (codes "# table: " ++ shape.name ++ codes ", type: ") (kind_name shape.kind)
    (labelled (codes "# table: " ++ shape.name) (codes ", type: ")
    (labelled (codes "# table: ") shape.name refl name) refl) (kind_stays shape.kind))
    (counts_end shape.size used)) refl refl

headings_lines : (state : State) (table : ℕ) (shapes : List Shape)
    → list_all (stays (λ shape. shape.name)) shapes ≡ true
    → HasLines (headings state table shapes)
headings_lines state table [] all = no_lines
headings_lines state table (shape ∷ shapes) all =
    let h = both (list_all is_line_byte shape.name) (list_all (stays (λ shape. shape.name)) shapes)
    all in
    more_lines (heading shape (length (keys_of state table))) (headings state (table + 1) shapes)
    (heading_lines shape (length (keys_of state table)) h.0)
    (headings_lines state (table + 1) shapes h.1)

pub title_stays : (title name : List ℕ) (shape : Shape) → list_all is_line_byte title ≡ true
    → list_all is_line_byte name ≡ true → list_all is_line_byte shape.name ≡ true
    → list_all is_line_byte (title_text title name shape) ≡ true
title_stays title name shape begins named its =
    labelled (title ++ name ++ codes ", table: ") shape.name
    (labelled (title ++ name) (codes ", table: ") (labelled title name begins named) refl) its

-- ---- rows

sums_end : (sums : Summed) (cols : List (Col × ℕ)) → Ends (sums_text sums cols)
sums_end sums cols =
    behind (codes " peers=" ++ decimal sums.peers ++ codes " exp=" ++ ms_or_never sums.left
    ++ cells_text sums cols) (codes "\n")
    (labelled (codes " peers=" ++ decimal sums.peers ++ codes " exp=" ++ ms_or_never sums.left)
    (cells_text sums cols)
    (labelled (codes " peers=" ++ decimal sums.peers ++ codes " exp=") (ms_or_never sums.left)
    (labelled (codes " peers=" ++ decimal sums.peers) (codes " exp=")
    (labelled (codes " peers=") (decimal sums.peers) refl (number_stays sums.peers)) refl)
    (ms_stay sums.left)) (cells_stay sums cols)) at_end

row_lines : (shape : Shape) (key : List ℕ) (sums : Summed) → HasLines (row_text shape key sums)
row_lines shape key sums =
    line_of 107 _ (behind (codes "key=" ++ key_text shape.kind key) (sums_text sums shape.cols)
    (labelled (codes "key=") (key_text shape.kind key) refl (key_stays shape.kind key))
    (sums_end sums shape.cols)) refl refl

found_lines : (shape : Shape) (conds : List Cond) (key : List ℕ) (found : Option Summed)
    → HasLines (line_if shape conds (key, found))
found_lines shape conds key None = no_lines
found_lines shape conds key (Some sums) =
    elim (cases_Bool (all_hold conds sums)) [
      | inl holds ↦ rw holds (row_lines shape key sums)
      | inr not_met ↦ rw not_met no_lines
    ]

entry_lines : (shape : Shape) (conds : List Cond) (entry : List ℕ × Option Summed)
    → HasLines (line_if shape conds entry)
entry_lines shape conds entry = found_lines shape conds entry.0 entry.1

selected_lines : (state : State) (table : ℕ) (sel : Select) → HasLines (rows_text state table sel)
selected_lines state table All =
    flat_lines (line_if (shape_of state table) []) (entry_lines (shape_of state table) [])
    (listed state table)
selected_lines state table (One key) =
    found_lines (shape_of state table) [] key (summed state table key)
selected_lines state table (Conds conds) =
    flat_lines (line_if (shape_of state table) conds) (entry_lines (shape_of state table) conds)
    (listed state table)

-- ---- keys of filters and ranked lists

key_lines : (shape : Shape) (key : List ℕ) → HasLines (key_line shape key)
key_lines shape key =
    line_of 107 _ (behind (codes "key=" ++ key_text shape.kind key) (codes "\n")
    (labelled (codes "key=") (key_text shape.kind key) refl (key_stays shape.kind key)) at_end)
    refl refl

held_lines : (filter : Filter) (shape : Shape) (keys : List (List ℕ))
    → list_all is_line_byte filter.name ≡ true → list_all is_line_byte shape.name ≡ true
    → HasLines (held_text filter shape keys)
held_lines filter shape keys name its =
    let title = title_text (codes "# filter: ") filter.name shape in
    more_lines (title ++ codes ", keys:" ++ decimal (length keys) ++ codes "\n")
    (flat_map (key_line shape) keys)
    (line_of 35 _ (behind (title ++ codes ", keys:" ++ decimal (length keys)) (codes "\n")
    (labelled (title ++ codes ", keys:") (decimal (length keys))
    (labelled title (codes ", keys:")
    (title_stays (codes "# filter: ") filter.name shape refl name its) refl)
    (number_stays (length keys))) at_end) refl refl)
    (flat_lines (key_line shape) (key_lines shape) keys)

-- digits, of which there are some
record Front (text : List ℕ) : Type 0 where
  pub byte : ℕ
  pub rest : List ℕ
  pub is : text ≡ byte ∷ rest
  pub digit : is_decimal byte ≡ true

front_of : (text : List ℕ) → 1 ≤ length text → list_all is_decimal text ≡ true → Front text
front_of [] some all = absurd (omega (arith, some))
front_of (byte ∷ rest) some all = record {
  byte = byte;
  rest = rest;
  is = refl;
  digit = (both (is_decimal byte) (list_all is_decimal rest) all).0;
}

no_end : (byte : ℕ) → is_decimal byte ≡ true → eqb byte 10 ≡ false
no_end byte digit = grind (arith, nat_tests)

no_refusal : (byte : ℕ) → is_decimal byte ≡ true → eqb 114 byte ≡ false
no_refusal byte digit = grind (arith, nat_tests)

-- a line that begins with a number
numbered : (n : ℕ) (text : List ℕ) → Ends text → HasLines (decimal n ++ text)
numbered n text end =
    let front = front_of (decimal n) (decimal_some n) (decimal_digits n) in
    let ends : Ends (decimal n ++ text) = behind (decimal n) text (number_stays n) end in
    subst (λ digits. HasLines (digits ++ text)) (sym front.is)
    (line_of front.byte (front.rest ++ text)
    (subst (λ digits. Ends (digits ++ text)) front.is ends)
    (no_end front.byte front.digit) (no_refusal front.byte front.digit))

place_lines : (place : ℕ) (shape : Shape) (key : List ℕ) (col : Col × ℕ) (value : ℕ)
    → HasLines (place_text place shape key col value)
place_lines place shape key col value =
    let text = codes " key=" ++ (key_text shape.kind key ++ (cell_text col value ++ codes "\n")) in
    subst HasLines (regroup (decimal place) (codes " key=") (key_text shape.kind key)
    (cell_text col value) (codes "\n"))
    (numbered place text
    (behind (codes " key=") (key_text shape.kind key ++ (cell_text col value ++ codes "\n")) refl
    (behind (key_text shape.kind key) (cell_text col value ++ codes "\n")
    (key_stays shape.kind key)
    (behind (cell_text col value) (codes "\n") (cell_stays col value) at_end))))
  where
    regroup : (a b c d e : List ℕ) → a ++ (b ++ (c ++ (d ++ e))) ≡ a ++ b ++ c ++ d ++ e
    regroup a b c d e = simp append_assoc

places_lines : (shape : Shape) (col : Col × ℕ) (place : ℕ) (entries : List (List ℕ × ℕ))
    → HasLines (places_text shape col place entries)
places_lines shape col place [] = no_lines
places_lines shape col place (entry ∷ entries) =
    more_lines (place_text place shape entry.0 col entry.1)
    (places_text shape col (place + 1) entries)
    (place_lines place shape entry.0 col entry.1) (places_lines shape col (place + 1) entries)

ranking_lines : (rank : Rank) (shape : Shape) (col : Col × ℕ) (entries : List (List ℕ × ℕ))
    → list_all is_line_byte rank.name ≡ true → list_all is_line_byte shape.name ≡ true
    → HasLines (ranking_text rank shape col entries)
ranking_lines rank shape col entries name its =
    let title = title_text (codes "# rank: ") rank.name shape in
    more_lines (title ++ codes ", by: " ++ column_text col ++ codes "\n")
    (places_text shape col 1 entries)
    (line_of 35 _ (behind (title ++ codes ", by: " ++ column_text col) (codes "\n")
    (labelled (title ++ codes ", by: ") (column_text col)
    (labelled title (codes ", by: ")
    (title_stays (codes "# rank: ") rank.name shape refl name its) refl)
    (column_stays col)) at_end) refl refl)
    (places_lines shape col 1 entries)

change_lines : (filter : Filter) (shape : Shape) (t : Option ℕ)
    → list_all is_line_byte filter.name ≡ true → list_all is_line_byte shape.name ≡ true
    → HasLines (change_text filter shape t)
change_lines filter shape t name its =
    let title = title_text (codes "# next: ") filter.name shape in
    line_of 35 _ (behind (title ++ codes ", at:" ++ ms_or_never t) (codes "\n")
    (labelled (title ++ codes ", at:") (ms_or_never t)
    (labelled title (codes ", at:")
    (title_stays (codes "# next: ") filter.name shape refl name its) refl)
    (ms_stay t)) at_end) refl refl

-- ---- the names of a checked configuration

names_stay : {A : Type 0} (name_of : A → List ℕ) (faults : List A → A → List ConfigFault)
    → ((before : List A) (x : A) → faults before x ≡ [] → HasName name_of before x)
    → (before xs : List A) → each faults before xs ≡ [] → list_all (stays name_of) xs ≡ true
names_stay name_of faults named before [] none = refl
names_stay name_of faults named before (x ∷ xs) none =
    let h = both_none (faults before x) (each faults (before ++ x ∷ []) xs) none in
    and_true (stays name_of x) (list_all (stays name_of) xs)
    (name_stays (name_of x) (named before x h.0).valid)
    (names_stay name_of faults named (before ++ x ∷ []) xs h.1)

-- the names that answers have
pub record NamesStay (state : State) : Type 0 where
  pub tables : list_all (stays (λ shape. shape.name)) state.config.tables ≡ true
  pub filters : list_all (stays (λ filter. filter.name)) state.config.filters ≡ true
  pub ranks : list_all (stays (λ rank. rank.name)) state.config.ranks ≡ true
  pub peers : list_all (stays (λ peer. peer)) state.config.peers ≡ true
  pub shape : (table : ℕ) → list_all is_line_byte (shape_of state table).name ≡ true
  pub filter : (filter : ℕ) → list_all is_line_byte (filter_of state filter).name ≡ true
  pub rank : (rank : ℕ) → list_all is_line_byte (rank_of state rank).name ≡ true

pub names_of : (state : State) → config_faults state.config ≡ [] → NamesStay state
names_of state none =
    let h = faultless state.config none in
    let tables : list_all (stays (λ shape. shape.name)) state.config.tables ≡ true =
    names_stay (λ shape. shape.name) table_faults (λ before x e. (table_fits before x e).named) []
    state.config.tables h.tables in
    let filters : list_all (stays (λ filter. filter.name)) state.config.filters ≡ true =
    names_stay (λ filter. filter.name) (filter_faults state.config.tables)
    (λ before x e. (filter_fits state.config.tables before x e).named) []
    state.config.filters h.filters in
    let ranks : list_all (stays (λ rank. rank.name)) state.config.ranks ≡ true =
    names_stay (λ rank. rank.name) (rank_faults state.config.tables)
    (λ before x e. (rank_fits state.config.tables before x e).named) []
    state.config.ranks h.ranks in
    record {
      tables = tables;
      filters = filters;
      ranks = ranks;
      peers = names_stay (λ peer. peer) peer_faults peer_named [] state.config.peers h.peers;
      shape = λ table. at_position (stays (λ shape. shape.name)) state.config.tables table no_shape
          tables refl;
      filter = λ filter. at_position (stays (λ filter. filter.name)) state.config.filters filter
          no_filter filters refl;
      rank = λ rank. at_position (stays (λ rank. rank.name)) state.config.ranks rank no_rank
          ranks refl;
    }

-- ---- each answer

pub question_lines : (state : State) (question : Question) (text : List ℕ) → NamesStay state
    → IsAnswerTo state question text → HasLines text
question_lines state Tables text names is =
    subst HasLines (sym is) (headings_lines state 0 state.config.tables names.tables)
question_lines state (Table table sel) text names is =
    subst HasLines (sym is) (more_lines (heading (shape_of state table)
    (length (keys_of state table))) (rows_text state table sel)
    (heading_lines (shape_of state table) (length (keys_of state table)) (names.shape table))
    (selected_lines state table sel))
question_lines state (FilterKeys at) text names is =
    let filter = filter_of state at in
    subst HasLines (sym is) (held_lines filter (shape_of state filter.table)
    (set_at state filter state.moment) (names.filter at) (names.shape filter.table))
question_lines state (Ranking at) text names is =
    let rank = rank_of state at in
    let shape = shape_of state rank.table in
    subst HasLines (sym is) (ranking_lines rank shape (rank.col, period_of shape.cols rank.col)
    (ranked state rank) (names.rank at) (names.shape rank.table))
question_lines state (NextChange at) text names is =
    let filter = filter_of state at in
    subst HasLines (sym is.2) (change_lines filter (shape_of state filter.table) is.0
    (names.filter at) (names.shape filter.table))
question_lines state (OneKey table key) text names is =
    key_text_lines state table key text (names.shape table) names.peers names.filters is

pub command_lines : (state : State) (command : Command) (text : List ℕ) → NamesStay state
    → IsAnswer state command text → HasLines text
command_lines state (Ask question) text names is = question_lines state question text names is
command_lines state (Changes change) text names is =
    subst HasLines (sym is) (line_of 111 _ (behind (codes "ok") (codes "\n") refl at_end) refl refl)

pub lines_answer : (state : State) (command : Command) (text : List ℕ)
    → config_faults state.config ≡ [] → IsAnswer state command text → AreAnswerLines text
lines_answer state command text none is =
    answer_lines text (command_lines state command text (names_of state none) is)

-- ---- refusals

pub lines_refuse : (fault : CommandFault)
    → map is_answer_line (lines_of (refusal_text fault)) ≡ false ∷ []
unfolding lines_of digits
lines_refuse faults.Empty = refl
lines_refuse fault = refl
