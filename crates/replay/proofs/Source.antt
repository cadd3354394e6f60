-- The lines of a source.
use Rattle.std.proofs.Common.{◌≡◌, ◌⊎◌, ℕ, ◌≤◌, false, eqb, List, [], ◌∷◌, ◌++◌, length, Option}
use Rattle.std.proofs.Common.{None, Some, IfSome, inl, inr, sym, ap, subst, ◌∙◌, refl}
use Rattle.std.proofs.Common.{append_assoc, append-nil, arith}
use Rattle.std.specs.Io.BufRead.{DropsThrough, drop_through, take_through}
use Rattle.std.specs.Str.Lines.{strip_carriage_return}
use Rattle.std.proofs.lemmas.Bool.{cases_Bool, eqb-true}
use Rattle.line_words.specs.Words.{lines_of, parts}
use Rattle.line_words.proofs.Splitting.{lines_of_empty, lines_of_first, lines_of_last}
use Rattle.replay.specs.Source.{FirstLine, OfLines, TakesLine}

-- ---- a text up to its first LF, and behind it

-- one line with its LF, or the last without one
record Taken (text bytes rest : List ℕ) : Type 0 where
  pub whole : text ≡ bytes ++ rest
  pub line : ((line : List ℕ) × (bytes ≡ line ++ 10 ∷ [])
      × ((behind : List ℕ) → parts 10 (line ++ 10 ∷ behind) ≡ line ∷ parts 10 behind))
      ⊎ ((rest ≡ []) × (parts 10 bytes ≡ bytes ∷ []))

-- a byte that is no LF before them
onto_line : (byte : ℕ) (line : List ℕ) → eqb byte 10 ≡ false
    → ((behind : List ℕ) → parts 10 (line ++ 10 ∷ behind) ≡ line ∷ parts 10 behind)
    → (behind : List ℕ) → parts 10 (byte ∷ line ++ 10 ∷ behind) ≡ (byte ∷ line) ∷ parts 10 behind
unfolding parts
onto_line byte line other first behind = rw (other, first behind) refl

onto_last : (byte : ℕ) (line : List ℕ) → eqb byte 10 ≡ false → parts 10 line ≡ line ∷ []
    → parts 10 (byte ∷ line) ≡ (byte ∷ line) ∷ []
unfolding parts
onto_last byte line other one = rw (other, one) refl

empty_line : (behind : List ℕ) → parts 10 (10 ∷ behind) ≡ [] ∷ parts 10 behind
unfolding parts
empty_line behind = refl

no_parts : parts 10 [] ≡ [] ∷ []
unfolding parts
no_parts = refl

taken : (text : List ℕ) → Taken text (take_through 10 text) (drop_through 10 text)
taken [] = record { whole = refl; line = inr (refl, no_parts) }
taken (byte ∷ text) =
    elim (cases_Bool (eqb byte 10)) [
      | inl is ↦ rw is (record {
        whole = refl;
        line = inl ([], ap (λ b. b ∷ []) (eqb-true byte 10 is), empty_line);
      })
      | inr other ↦ rw other (more (taken text) other)
    ]
  where
    more : Taken text (take_through 10 text) (drop_through 10 text) → eqb byte 10 ≡ false
        → Taken (byte ∷ text) (byte ∷ take_through 10 text) (drop_through 10 text)
    more t other = record {
      whole = ap (λ bytes. byte ∷ bytes) t.whole;
      line = elim t.line [
        | inl (line, is, first) ↦
            inl (byte ∷ line, ap (λ bytes. byte ∷ bytes) is, onto_line byte line other first)
        | inr (none, one) ↦ inr (none, onto_last byte (take_through 10 text) other one)
      ];
    }

-- the lines of a text without LF
lines_of_one : (bytes : List ℕ) → parts 10 bytes ≡ bytes ∷ [] → length (lines_of bytes) ≤ 1
lines_of_one bytes one =
    elim (cases_Bool (eqb (length bytes) 0)) [
      | inl none ↦ omega (arith, ap length (lines_of_empty bytes (eqb-true _ _ none)))
      | inr some ↦ omega (
        arith,
        ap length (lines_of_last bytes some one ∙ ap (λ ls. bytes ∷ ls) (lines_of_empty [] refl)),
      )
    ]

first_line : (text bytes rest : List ℕ) → Taken text bytes rest → FirstLine text rest bytes
first_line text bytes rest t = elim t.line [
  | inl (line, is, first) ↦
      let its : lines_of bytes ≡ strip_carriage_return line ∷ [] =
      ap lines_of is ∙ lines_of_first (line ++ 10 ∷ []) line [] (first [])
      ∙ ap (λ ls. strip_carriage_return line ∷ ls) (lines_of_empty [] refl) in
      let whole : text ≡ line ++ 10 ∷ rest =
      t.whole ∙ ap (λ bs. bs ++ rest) is ∙ append_assoc line (10 ∷ []) rest in
      record {
        parted = ap lines_of whole ∙ lines_of_first (line ++ 10 ∷ rest) line rest (first rest)
            ∙ sym (ap (λ ls. ls ++ lines_of rest) its);
        single = omega (arith, ap length its);
        ended = λ none. let both : strip_carriage_return line ∷ [] ≡ [] = sym its ∙ none in
            absurd cc;
      }
  | inr (none, one) ↦
      let no_lines : lines_of rest ≡ [] = ap lines_of none ∙ lines_of_empty [] refl in
      record {
        parted = ap lines_of (t.whole ∙ ap (λ r. bytes ++ r) none ∙ append-nil bytes)
            ∙ sym (ap (λ ls. lines_of bytes ++ ls) no_lines ∙ append-nil (lines_of bytes));
        single = lines_of_one bytes one;
        ended = λ _. no_lines;
      }
]

-- what a source gives up to its first LF
pub line_taken : (old new : Option (List ℕ)) (before bytes : List ℕ) → before ≡ []
    → IfSome old (λ xs. bytes ≡ before ++ take_through 10 xs) → DropsThrough old new 10
    → TakesLine old new bytes
line_taken None new before bytes none gave drops = tt
line_taken (Some text) new before bytes none gave drops =
    subst (λ (n : Option (List ℕ)). TakesLine (Some text) n bytes) (sym drops)
    (subst (λ (bs : List ℕ). FirstLine text (drop_through 10 text) bs)
    (sym (gave ∙ ap (λ (bs : List ℕ). bs ++ take_through 10 text) none))
    (first_line text (take_through 10 text) (drop_through 10 text) (taken text)))

-- ---- its lines, one by one

no_more : (lines : List (List ℕ)) (line : List ℕ) (more : List (List ℕ)) → lines ≡ line ∷ more
    → length lines ≤ 1 → lines ≡ line ∷ []
no_more lines line [] is single = is
no_more lines line (next ∷ more) is single = absurd (omega (arith, single, ap length is))

-- a line was taken
pub one_line : (old new : Option (List ℕ)) (bytes line : List ℕ) (more : List (List ℕ))
    → TakesLine old new bytes → lines_of bytes ≡ line ∷ more
    → OfLines old new (λ all rest. all ≡ line ∷ rest)
one_line None new bytes line more takes is = tt
one_line (Some text) None bytes line more takes is = takes
one_line (Some text) (Some rest) bytes line more takes is =
    takes.parted ∙ ap (λ ls. ls ++ lines_of rest)
    (no_more (lines_of bytes) line more is takes.single)

-- none is left
pub no_line : (old new : Option (List ℕ)) (bytes : List ℕ) → TakesLine old new bytes
    → lines_of bytes ≡ [] → OfLines old new (λ all rest. (all ≡ []) × (rest ≡ []))
no_line None new bytes takes none = tt
no_line (Some text) None bytes takes none = takes
no_line (Some text) (Some rest) bytes takes none =
    let behind = takes.ended none in
    (takes.parted ∙ rw (none, behind) refl, behind)

-- ---- what holds of all lines, and of those that are left

pub begins : (known : Option (List ℕ)) (P : List (List ℕ) → List (List ℕ) → Type 0)
    → ((all : List (List ℕ)) → P all all) → OfLines known known P
begins None P h = tt
begins (Some text) P h = h (lines_of text)

pub goes_on : (first middle last : Option (List ℕ))
    (P S Q : List (List ℕ) → List (List ℕ) → Type 0) → OfLines first middle P
    → OfLines middle last S
    → ((all left rest : List (List ℕ)) → P all left → S left rest → Q all rest)
    → OfLines first last Q
goes_on None middle last P S Q h step too = tt
goes_on (Some text) None last P S Q h step too = absurd h
goes_on (Some text) (Some left) None P S Q h step too = step
goes_on (Some text) (Some left) (Some rest) P S Q h step too =
    too (lines_of text) (lines_of left) (lines_of rest) h step

-- the same, where it says something of all lines
pub finishes : (first middle last : Option (List ℕ)) (P S : List (List ℕ) → List (List ℕ) → Type 0)
    (Q : List (List ℕ) → Type 0) → OfLines first middle P → OfLines middle last S
    → ((all left rest : List (List ℕ)) → P all left → S left rest → Q all)
    → IfSome first (λ text. Q (lines_of text))
finishes None middle last P S Q h step too = tt
finishes (Some text) None last P S Q h step too = absurd h
finishes (Some text) (Some left) None P S Q h step too = absurd step
finishes (Some text) (Some left) (Some rest) P S Q h step too =
    too (lines_of text) (lines_of left) (lines_of rest) h step

pub concludes : (first last : Option (List ℕ)) (P : List (List ℕ) → List (List ℕ) → Type 0)
    (Q : List (List ℕ) → Type 0) → OfLines first last P
    → ((all left : List (List ℕ)) → P all left → Q all) → IfSome first (λ text. Q (lines_of text))
concludes None last P Q h too = tt
concludes (Some text) None P Q h too = absurd h
concludes (Some text) (Some left) P Q h too = too (lines_of text) (lines_of left) h

pub holds : (known : Option (List ℕ)) (Q : List (List ℕ) → Type 0)
    → ((all : List (List ℕ)) → Q all) → IfSome known (λ text. Q (lines_of text))
holds None Q h = tt
holds (Some text) Q h = h (lines_of text)

-- nothing is said
pub silent : (known : Option (List ℕ)) → IfSome known (λ text. Unit {0})
silent None = tt
silent (Some text) = tt

-- what holds of the lines that are left says something of all
pub joins : (first last : Option (List ℕ)) (P : List (List ℕ) → List (List ℕ) → Type 0)
    (S Q : List (List ℕ) → Type 0) → OfLines first last P → IfSome last (λ text. S (lines_of text))
    → ((all left : List (List ℕ)) → P all left → S left → Q all)
    → IfSome first (λ text. Q (lines_of text))
joins None last P S Q h more too = tt
joins (Some text) None P S Q h more too = absurd h
joins (Some text) (Some left) P S Q h more too = too (lines_of text) (lines_of left) h more
