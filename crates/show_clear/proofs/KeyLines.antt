-- No line of one key's answer is empty or a refusal's.
use Rattle.std.proofs.Common.{◌≡◌, ℕ, Bool, true, false, eqb, List, [], ◌∷◌, ◌++◌, length}
use Rattle.std.proofs.Common.{Option, codes, refl, sym, subst, inl, inr}
use Rattle.std.specs.Prelude.{slice_index_or}
use Rattle.std.proofs.lemmas.Bool.{cases_Bool}
use Rattle.std.specs.Fmt.{decimal}
use Rattle.std.specs.List.{flat_map, list_all}
use Rattle.agg_types.specs.declared.column.Col.{Col}
use Rattle.agg_types.specs.declared.config.Filter.{Filter}
use Rattle.agg_types.specs.declared.config.Shape.{Shape}
use Rattle.fleet_model.specs.Keys.{holds}
use Rattle.fleet_model.specs.State.{State}
use Rattle.key_text.specs.Printed.{key_text}
use Rattle.line_words.proofs.TextLines.{is_line_byte}
use Rattle.line_words.proofs.WordsBack.{both}
use Rattle.book.specs.ByPeer.{peer_rows}
use Rattle.book.specs.declared.by_peer.PeerRow.{PeerRow}
use Rattle.answer_text.specs.KeyAnswer.{AreVerdictLines, IsKeyText, IsVerdictLine, holders_text}
use Rattle.answer_text.specs.KeyAnswer.{key_heading, of_table, peer_line, verdict_line, yes_or_no}
use Rattle.answer_text.specs.Names.{escaped, is_bare, name_text, needs_escape}
use Rattle.answer_text.specs.Tables.{cells_text, ms_or_never, shape_of}
use Rattle.show_clear.proofs.AnswerPieces.{HasLines, at_end, at_position, behind, cells_stay}
use Rattle.show_clear.proofs.AnswerPieces.{flat_lines, key_stays, labelled, line_of, more_lines}
use Rattle.show_clear.proofs.AnswerPieces.{ms_stay, no_lines, number_stays, stays}
use Rattle.show_clear.proofs.KeyBytes.{and_true}

-- ---- names

escaped_stays : (byte : ℕ) → is_line_byte byte ≡ true
    → list_all is_line_byte (escaped byte) ≡ true
escaped_stays byte is =
    elim (cases_Bool (needs_escape byte)) [
      | inl marked ↦ rw marked (and_true (is_line_byte 92) (list_all is_line_byte (byte ∷ [])) refl
          (and_true (is_line_byte byte) true is refl))
      | inr other ↦ rw other (and_true (is_line_byte byte) true is refl)
    ]

escapes_stay : (name : List ℕ) → list_all is_line_byte name ≡ true
    → list_all is_line_byte (flat_map escaped name) ≡ true
escapes_stay [] all = refl
escapes_stay (byte ∷ name) all =
    let h = both (is_line_byte byte) (list_all is_line_byte name) all in
    labelled (escaped byte) (flat_map escaped name) (escaped_stays byte h.0)
    (escapes_stay name h.1)

told_stays : (name : List ℕ) → list_all is_line_byte name ≡ true
    → list_all is_line_byte (name_text name) ≡ true
told_stays name all =
    elim (cases_Bool (list_all is_bare name)) [
      | inl bare ↦ rw bare all
      | inr other ↦ rw other (labelled (codes "\"" ++ flat_map escaped name) (codes "\"")
          (labelled (codes "\"") (flat_map escaped name) refl (escapes_stay name all)) refl)
    ]

-- ---- the peers

heading_lines : (shape : Shape) (key : List ℕ) (peers : ℕ)
    → list_all is_line_byte shape.name ≡ true → HasLines (key_heading shape key peers)
heading_lines shape key peers its =
    let named = codes "# table: " ++ name_text shape.name in
    let keyed = named ++ codes ", key: " ++ key_text shape.kind key in
    line_of 35 _ (behind (keyed ++ codes ", peers:" ++ decimal peers) (codes "\n")
    (labelled (keyed ++ codes ", peers:") (decimal peers)
    (labelled keyed (codes ", peers:")
    (labelled (named ++ codes ", key: ") (key_text shape.kind key)
    (labelled named (codes ", key: ")
    (labelled (codes "# table: ") (name_text shape.name) refl (told_stays shape.name its)) refl)
    (key_stays shape.kind key)) refl) (number_stays peers)) at_end) refl refl

peer_lines : (peers : List (List ℕ)) (cols : List (Col × ℕ)) → list_all (stays (λ peer. peer)) peers
    ≡ true → (row : PeerRow) → HasLines (peer_line peers cols row)
peer_lines peers cols all row =
    let name = slice_index_or peers row.peer [] in
    let named = codes "peer=" ++ name_text name in
    let aged = named ++ codes " age=" ++ decimal row.age in
    line_of 112 _ (behind (aged ++ codes " exp=" ++ ms_or_never row.sums.left
    ++ cells_text row.sums cols) (codes "\n")
    (labelled (aged ++ codes " exp=" ++ ms_or_never row.sums.left) (cells_text row.sums cols)
    (labelled (aged ++ codes " exp=") (ms_or_never row.sums.left)
    (labelled aged (codes " exp=")
    (labelled (named ++ codes " age=") (decimal row.age)
    (labelled named (codes " age=")
    (labelled (codes "peer=") (name_text name) refl
    (told_stays name (at_position (stays (λ peer. peer)) peers row.peer [] all refl))) refl)
    (number_stays row.age)) refl) (ms_stay row.sums.left)) (cells_stay row.sums cols)) at_end)
    refl refl

-- ---- the filters

yes_stays : (is : Bool) → list_all is_line_byte (yes_or_no is) ≡ true
yes_stays true = refl
yes_stays false = refl

verdict_lines : (filter : Filter) (is : Bool) (next : Option ℕ)
    → list_all is_line_byte filter.name ≡ true → HasLines (verdict_line filter is next)
verdict_lines filter is next its =
    let named = codes "filter=" ++ name_text filter.name in
    let told = named ++ codes " holds=" ++ yes_or_no is in
    line_of 102 _ (behind (told ++ codes " next=" ++ ms_or_never next) (codes "\n")
    (labelled (told ++ codes " next=") (ms_or_never next)
    (labelled told (codes " next=")
    (labelled (named ++ codes " holds=") (yes_or_no is)
    (labelled named (codes " holds=")
    (labelled (codes "filter=") (name_text filter.name) refl (told_stays filter.name its)) refl)
    (yes_stays is)) refl) (ms_stay next)) at_end) refl refl

one_verdict : (state : State) (key : List ℕ) (filter : Filter) (line : List ℕ)
    → list_all is_line_byte filter.name ≡ true → IsVerdictLine state key filter line
    → HasLines line
one_verdict state key filter line its is =
    subst HasLines (sym is.2)
    (verdict_lines filter (holds state filter key state.moment) is.0 its)

verdicts_lines : (state : State) (key : List ℕ) (filters : List Filter) (text : List ℕ)
    → list_all (stays (λ filter. filter.name)) filters ≡ true
    → AreVerdictLines state key filters text → HasLines text
verdicts_lines state key [] text all is = subst HasLines (sym is) no_lines
verdicts_lines state key (filter ∷ filters) text all is =
    let h = both (list_all is_line_byte filter.name)
    (list_all (stays (λ filter. filter.name)) filters) all in
    subst HasLines (sym is.2) (more_lines is.0 is.1
    (one_verdict state key filter is.0 h.0 is.3)
    (verdicts_lines state key filters is.1 h.1 is.4))

table_named : (table : ℕ) (filters : List Filter)
    → list_all (stays (λ filter. filter.name)) filters ≡ true
    → list_all (stays (λ filter. filter.name)) (of_table table filters) ≡ true
table_named table [] all = refl
table_named table (filter ∷ filters) all =
    let h = both (list_all is_line_byte filter.name)
    (list_all (stays (λ filter. filter.name)) filters) all in
    elim (cases_Bool (eqb filter.table table)) [
      | inl its ↦ rw its (and_true (list_all is_line_byte filter.name)
          (list_all (stays (λ filter. filter.name)) (of_table table filters)) h.0
          (table_named table filters h.1))
      | inr other ↦ rw other (table_named table filters h.1)
    ]

-- ---- both

pub key_text_lines : (state : State) (table : ℕ) (key text : List ℕ)
    → list_all is_line_byte (shape_of state table).name ≡ true
    → list_all (stays (λ peer. peer)) state.config.peers ≡ true
    → list_all (stays (λ filter. filter.name)) state.config.filters ≡ true
    → IsKeyText state table key text → HasLines text
key_text_lines state table key text its peers filters is =
    let shape = shape_of state table in
    let rows = peer_rows state table key in
    subst HasLines (sym is.1) (more_lines (holders_text state table key) is.0
    (more_lines (key_heading shape key (length rows))
    (flat_map (peer_line state.config.peers shape.cols) rows)
    (heading_lines shape key (length rows) its)
    (flat_lines (peer_line state.config.peers shape.cols)
    (peer_lines state.config.peers shape.cols peers) rows))
    (verdicts_lines state key (of_table table state.config.filters) is.0
    (table_named table state.config.filters filters) is.2))
