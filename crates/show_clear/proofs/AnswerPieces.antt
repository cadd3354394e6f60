-- Texts of whole lines, and the pieces of answers that may stand in a line.
use Rattle.std.proofs.Common.{◌≡◌, ℕ, zero, suc, ◌/◌, ◌%◌, Bool, true, false, eqb, leb, ◌&&◌}
use Rattle.std.proofs.Common.{List, [], ◌∷◌, ◌++◌, length, get_or, Option, None, Some, codes}
use Rattle.std.proofs.Common.{refl, ap, sym, ◌∙◌, append_assoc, append-nil, arith, inl, inr}
use Rattle.std.proofs.lemmas.Bool.{cases_Bool, ne_eqb}
use Rattle.std.proofs.lemmas.List.Folds.{list_all-append}
use Rattle.std.specs.Fmt.{decimal}
use Rattle.std.specs.List.{flat_map, list_all}
use Rattle.std.specs.Prelude.{slice_index_or}
use Rattle.agg_types.specs.Check.{each}
use Rattle.agg_types.specs.Col.{col_name, is_rate}
use Rattle.agg_types.specs.Kind.{kind_name}
use Rattle.agg_types.specs.Name.{is_name, is_printable}
use Rattle.agg_types.specs.declared.column.Col.{Col}
use Rattle.agg_types.specs.declared.column.Col.TheVariants as column
use Rattle.agg_types.specs.declared.config.KeyKind.{KeyKind}
use Rattle.agg_types.specs.declared.config.KeyKind.TheVariants.{Integer, Ip, Ipv6, Str, Binary}
use Rattle.fleet_model.specs.declared.summed.Summed.{Summed}
use Rattle.key_text.specs.Printed.{hex_of, key_text}
use Rattle.line_words.specs.Words.{lines_of}
use Rattle.line_words.proofs.TextLines.{is_line_byte, lines_back, printed_bytes}
use Rattle.line_words.proofs.WordsBack.{both}
use Rattle.show_clear.specs.AnswerLines.{AreAnswerLines, is_answer_line}
use Rattle.answer_text.specs.Tables.{cell_text, cells_text, column_text, ms_or_never, value_in}
use Rattle.show_clear.proofs.KeyBytes.{Prints, all_of, and_true, decimal_passes}
use Rattle.show_clear.proofs.KeyBytes.{key_passes, lower_digits}

-- ---- texts of lines

-- whether a line is whole, and may stand in an answer
abbrev pub is_fine : List ℕ → Bool
is_fine line = list_all is_line_byte line && is_answer_line line

-- lines with their ends
abbrev pub text_of : List (List ℕ) → List ℕ
text_of lines = flat_map (λ line. line ++ 10 ∷ []) lines

-- a text of such lines
pub record HasLines (text : List ℕ) : Type 0 where
  pub lines : List (List ℕ)
  pub fine : list_all is_fine lines ≡ true
  pub whole : text ≡ text_of lines

pub no_lines : HasLines []
no_lines = record { lines = []; fine = refl; whole = refl }

pub text_of-append : (a b : List (List ℕ)) → text_of (a ++ b) ≡ text_of a ++ text_of b
text_of-append [] b = refl
text_of-append (line ∷ a) b =
    ap (λ rest. (line ++ 10 ∷ []) ++ rest) (text_of-append a b)
    ∙ sym (append_assoc (line ++ 10 ∷ []) (text_of a) (text_of b))

-- one text of lines behind another
pub more_lines : (a b : List ℕ) → HasLines a → HasLines b → HasLines (a ++ b)
more_lines a b front back = record {
  lines = front.lines ++ back.lines;
  fine = list_all-append is_fine front.lines back.lines
      ∙ and_true (list_all is_fine front.lines) (list_all is_fine back.lines) front.fine back.fine;
  whole = ap (λ text. text ++ b) front.whole
      ∙ (ap (λ text. text_of front.lines ++ text) back.whole
      ∙ sym (text_of-append front.lines back.lines));
}

pub flat_lines : {A : Type 0} (text : A → List ℕ) → ((x : A) → HasLines (text x)) → (xs : List A)
    → HasLines (flat_map text xs)
flat_lines text each [] = no_lines
flat_lines text each (x ∷ xs) =
    more_lines (text x) (flat_map text xs) (each x) (flat_lines text each xs)

pub whole_bytes : (lines : List (List ℕ)) → list_all is_fine lines ≡ true
    → list_all (list_all is_line_byte) lines ≡ true
whole_bytes [] all = refl
whole_bytes (line ∷ lines) all =
    let h = both (is_fine line) (list_all is_fine lines) all in
    and_true (list_all is_line_byte line) (list_all (list_all is_line_byte) lines)
    (both (list_all is_line_byte line) (is_answer_line line) h.0).0 (whole_bytes lines h.1)

pub may_stand : (lines : List (List ℕ)) → list_all is_fine lines ≡ true
    → list_all is_answer_line lines ≡ true
may_stand [] all = refl
may_stand (line ∷ lines) all =
    let h = both (is_fine line) (list_all is_fine lines) all in
    and_true (is_answer_line line) (list_all is_answer_line lines)
    (both (list_all is_line_byte line) (is_answer_line line) h.0).1 (may_stand lines h.1)

-- its lines are read as they are
pub answer_lines : (text : List ℕ) → HasLines text → AreAnswerLines text
answer_lines text h =
    let read : lines_of text ≡ h.lines =
    ap lines_of h.whole ∙ lines_back h.lines (whole_bytes h.lines h.fine) in
    record {
      whole = ap text_of read ∙ sym h.whole;
      each = ap (list_all is_answer_line) read ∙ may_stand h.lines h.fine;
    }

-- ---- one line

-- what stands at the end of a line
pub record Ends (text : List ℕ) : Type 0 where
  pub rest : List ℕ
  pub within : list_all is_line_byte rest ≡ true
  pub whole : text ≡ rest ++ 10 ∷ []

-- nothing but its end
pub at_end : Ends (codes "\n")
at_end = record { rest = []; within = refl; whole = refl }

pub behind : (front text : List ℕ) → list_all is_line_byte front ≡ true → Ends text
    → Ends (front ++ text)
behind front text fine end = record {
  rest = front ++ end.rest;
  within = all_of is_line_byte front end.rest fine end.within;
  whole = ap (λ more. front ++ more) end.whole ∙ sym (append_assoc front end.rest (10 ∷ []));
}

pub begins_fine : (byte : ℕ) (more : List ℕ) → eqb 114 byte ≡ false
    → is_answer_line (byte ∷ more) ≡ true
begins_fine byte more other =
    let some : eqb (length (byte ∷ more)) 0 ≡ false = ne_eqb _ 0 (λ z. omega (arith, z)) in
    rw (some, other) refl

-- a line that begins with this byte
pub line_of : (byte : ℕ) (more : List ℕ) → Ends (byte ∷ more) → eqb byte 10 ≡ false
    → eqb 114 byte ≡ false → HasLines (byte ∷ more)
line_of byte more end inside other = by end.rest end.within end.whole
  where
    by : (rest : List ℕ) → list_all is_line_byte rest ≡ true
        → byte ∷ more ≡ rest ++ 10 ∷ [] → HasLines (byte ∷ more)
    by [] within whole =
        let same : byte ≡ 10 = cc in
        let bad : eqb 10 10 ≡ false = ap (λ b. eqb b 10) (sym same) ∙ inside in
        absurd cc
    by (first ∷ rest) within whole =
        let same : byte ≡ first = cc in
        let fine : is_answer_line (first ∷ rest) ≡ true =
        begins_fine first rest (ap (λ b. eqb 114 b) (sym same) ∙ other) in
        record {
          lines = (first ∷ rest) ∷ [];
          fine = and_true (is_fine (first ∷ rest)) true
              (and_true (list_all is_line_byte (first ∷ rest)) (is_answer_line (first ∷ rest))
              within fine) refl;
          whole = whole ∙ sym (append-nil ((first ∷ rest) ++ 10 ∷ []));
        }

-- ---- names, numbers and keys

-- whether a name may stand in a line
abbrev pub stays : {A : Type 0} (name_of : A → List ℕ) → A → Bool
stays name_of x = list_all is_line_byte (name_of x)

pub name_stays : (name : List ℕ) → is_name name ≡ true → list_all is_line_byte name ≡ true
name_stays name is =
    printed_bytes name (both (leb 1 (length name) && leb (length name) 128)
    (list_all is_printable name) is).1

pub get_passes : (p : ℕ → Bool) (xs : List ℕ) (i : ℕ) → list_all p xs ≡ true → p 0 ≡ true
    → p (get_or xs i 0) ≡ true
get_passes p [] i all none = none
get_passes p (x ∷ xs) zero all none = (both (p x) (list_all p xs) all).0
get_passes p (x ∷ xs) (suc i) all none =
    get_passes p xs i (both (p x) (list_all p xs) all).1 none

pub digit_stays : (i : ℕ) → is_line_byte (get_or lower_digits i 0) ≡ true
digit_stays i = get_passes is_line_byte lower_digits i refl refl

pub hex_stays : (byte : ℕ) → true ≡ true → list_all is_line_byte (hex_of byte) ≡ true
hex_stays byte any =
    and_true (is_line_byte (get_or lower_digits (byte / 16) 0))
    (list_all is_line_byte (get_or lower_digits (byte % 16) 0 ∷ [])) (digit_stays (byte / 16))
    (and_true (is_line_byte (get_or lower_digits (byte % 16) 0)) true (digit_stays (byte % 16))
    refl)

pub line_prints : Prints is_line_byte (λ byte. true)
line_prints = record {
  printed = λ byte prints. (both _ _ (printed_bytes (byte ∷ []) (and_true _ _ prints refl))).0;
  hex = hex_stays;
}

pub number_stays : (n : ℕ) → list_all is_line_byte (decimal n) ≡ true
number_stays n = decimal_passes is_line_byte (λ byte. true) line_prints n

pub any_bytes : (key : List ℕ) → list_all (λ byte. true) key ≡ true
any_bytes [] = refl
any_bytes (byte ∷ key) = any_bytes key

pub key_stays : (kind : KeyKind) (key : List ℕ) → list_all is_line_byte (key_text kind key) ≡ true
key_stays kind key = key_passes is_line_byte (λ byte. true) line_prints kind key (any_bytes key)

pub col_stays : (col : Col) → list_all is_line_byte (col_name col) ≡ true
col_stays column.Gpc0 = refl
col_stays col = refl

pub column_stays : (col : Col × ℕ) → list_all is_line_byte (column_text col) ≡ true
column_stays col =
    elim (cases_Bool (is_rate col.0)) [
      | inl rate ↦ rw rate (all_of is_line_byte (col_name col.0 ++ codes "(" ++ decimal col.1)
          (codes ")") (all_of is_line_byte (col_name col.0 ++ codes "(") (decimal col.1)
          (all_of is_line_byte (col_name col.0) (codes "(") (col_stays col.0) refl)
          (number_stays col.1)) refl)
      | inr count ↦ rw count (col_stays col.0)
    ]

pub cell_stays : (col : Col × ℕ) (value : ℕ) → list_all is_line_byte (cell_text col value) ≡ true
cell_stays col value =
    all_of is_line_byte (codes " " ++ column_text col ++ codes "=") (decimal value)
    (all_of is_line_byte (codes " " ++ column_text col) (codes "=")
    (all_of is_line_byte (codes " ") (column_text col) refl (column_stays col)) refl)
    (number_stays value)

pub cells_stay : (sums : Summed) (cols : List (Col × ℕ))
    → list_all is_line_byte (cells_text sums cols) ≡ true
cells_stay sums [] = refl
cells_stay sums (col ∷ cols) =
    all_of is_line_byte (cell_text col (value_in sums col.0)) (cells_text sums cols)
    (cell_stays col (value_in sums col.0)) (cells_stay sums cols)

pub ms_stay : (ms : Option ℕ) → list_all is_line_byte (ms_or_never ms) ≡ true
ms_stay None = refl
ms_stay (Some ms) = number_stays ms

pub kind_stays : (kind : KeyKind) → list_all is_line_byte (kind_name kind) ≡ true
kind_stays Integer = refl
kind_stays Ip = refl
kind_stays Ipv6 = refl
kind_stays (Str len) = refl
kind_stays (Binary len) = refl

-- a text behind a fixed one that may stand in a line
pub labelled : (label text : List ℕ) → list_all is_line_byte label ≡ true
    → list_all is_line_byte text ≡ true → list_all is_line_byte (label ++ text) ≡ true
labelled label text front back = all_of is_line_byte label text front back

-- what passes in each place passes at a position, so does the one that stands for none
pub at_position : {A : Type 0} (p : A → Bool) (xs : List A) (i : ℕ) (other : A)
    → list_all p xs ≡ true → p other ≡ true → p (slice_index_or xs i other) ≡ true
at_position p [] i other all is = is
at_position p (x ∷ xs) zero other all is = (both (p x) (list_all p xs) all).0
at_position p (x ∷ xs) (suc i) other all is =
    at_position p xs i other (both (p x) (list_all p xs) all).1 is
