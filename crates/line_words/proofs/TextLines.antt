-- Lines that are written, each ended by LF, are the lines of the text.
use Rattle.std.proofs.Common.{◌≡◌, ℕ, zero, suc, ◌-◌, Bool, true, false, eqb, ◌&&◌, not, List, []}
use Rattle.std.proofs.Common.{◌∷◌, ◌++◌, length, slice_index, refl, ap, ◌∙◌, append_assoc}
use Rattle.std.proofs.Common.{arith}
use Rattle.std.proofs.lemmas.Bool.Decides.{nat_tests}
use Rattle.std.proofs.lemmas.List.Folds.{list_all-append}
use Rattle.std.specs.List.{flat_map, join_with_byte, list_all}
use Rattle.std.specs.Str.Lines.{strip_carriage_return}
use Rattle.agg_types.specs.Name.{is_printable}
use Rattle.line_words.specs.Words.{lines_of, parts}
use Rattle.line_words.proofs.Splitting.{lines_of_empty, lines_of_first}
use Rattle.line_words.proofs.WordsBack.{both, differs, is_word, list_all-weaker, split_front}

-- whether a byte may stand in a line: it is no LF and no CR
abbrev pub is_line_byte : ℕ → Bool
is_line_byte byte = differs 10 byte && differs 13 byte

no_end : (byte : ℕ) → is_line_byte byte ≡ true → differs 10 byte ≡ true
no_end byte h = (both (differs 10 byte) (differs 13 byte) h).0

no_return : (byte : ℕ) → is_line_byte byte ≡ true → eqb byte 13 ≡ false
no_return byte h = by (eqb byte 13) (both (differs 10 byte) (differs 13 byte) h).1
  where
    by : (b : Bool) → not b ≡ true → b ≡ false
    by true bad = absurd cc
    by false fine = refl

none_returns : (line : List ℕ) (i : ℕ) → list_all is_line_byte line ≡ true
    → eqb (slice_index line i) 13 ≡ false
none_returns [] i all = refl
none_returns (byte ∷ line) zero all =
    no_return byte (both (is_line_byte byte) (list_all is_line_byte line) all).0
none_returns (byte ∷ line) (suc i) all =
    none_returns line i (both (is_line_byte byte) (list_all is_line_byte line) all).1

nothing_stripped : (line : List ℕ) → list_all is_line_byte line ≡ true
    → strip_carriage_return line ≡ line
nothing_stripped line all = rw (none_returns line (length line - 1) all) refl

pub first_line : (line rest : List ℕ) → list_all is_line_byte line ≡ true
    → lines_of ((line ++ 10 ∷ []) ++ rest) ≡ line ∷ lines_of rest
unfolding parts
first_line line rest all =
    ap lines_of (append_assoc line (10 ∷ []) rest)
    ∙ (lines_of_first (line ++ 10 ∷ rest) line rest
    (split_front 10 line rest (list_all-weaker is_line_byte (differs 10) no_end line all))
    ∙ ap (λ l. l ∷ lines_of rest) (nothing_stripped line all))

pub lines_back : (lines : List (List ℕ)) → list_all (list_all is_line_byte) lines ≡ true
    → lines_of (flat_map (λ line. line ++ 10 ∷ []) lines) ≡ lines
lines_back [] all = lines_of_empty [] refl
lines_back (line ∷ lines) all =
    let h = both (list_all is_line_byte line) (list_all (list_all is_line_byte) lines) all in
    first_line line (flat_map (λ line. line ++ 10 ∷ []) lines) h.0
    ∙ ap (λ more. line ∷ more) (lines_back lines h.1)

-- ---- lines of words

printable_in_line : (byte : ℕ) → is_printable byte ≡ true → is_line_byte byte ≡ true
printable_in_line byte prints = grind (arith, nat_tests)

-- printable bytes may stand in a line
pub printed_bytes : (text : List ℕ) → list_all is_printable text ≡ true
    → list_all is_line_byte text ≡ true
printed_bytes text all = list_all-weaker is_printable is_line_byte printable_in_line text all

word_bytes : (text : List ℕ) → is_word text ≡ true → list_all is_line_byte text ≡ true
word_bytes text is =
    printed_bytes text (both (not (eqb (length text) 0)) (list_all is_printable text) is).1

-- so may those of words and the spaces between them
pub line_bytes : (texts : List (List ℕ)) → list_all is_word texts ≡ true
    → list_all is_line_byte (join_with_byte 32 texts) ≡ true
line_bytes [] all = refl
line_bytes (text ∷ []) all = word_bytes text (both (is_word text) true all).0
line_bytes (text ∷ next ∷ texts) all =
    let h = both (is_word text) (list_all is_word (next ∷ texts)) all in
    list_all-append is_line_byte text (32 ∷ join_with_byte 32 (next ∷ texts))
    ∙ rw (word_bytes text h.0, line_bytes (next ∷ texts) h.1) refl
