-- Numbers and words that are written are read back.
use Rattle.std.proofs.Common.{◌≡◌, ℕ, ◌^◌, ◌<◌, ◌≤◌, Bool, true, false, eqb, leb, ltb}
use Rattle.std.proofs.Common.{◌&&◌, not, List, [], ◌∷◌, ◌++◌, length}
use Rattle.std.proofs.Common.{filter, Ok, Some, refl, ap, ◌∙◌}
use Rattle.std.proofs.Common.{arith, inl, inr}
use Rattle.std.proofs.Common.{length-append}
use Rattle.std.proofs.lemmas.Bool.{cases_Bool, leb-true}
use Rattle.std.proofs.lemmas.Bool.Decides.{nat_tests}
use Rattle.std.proofs.lemmas.Fmt.{decimal_is_IsNumeral, length-decimal-le}
use Rattle.std.proofs.lemmas.Str.Parse.{digit_from_value}
use Rattle.std.specs.Fmt.{decimal}
use Rattle.std.specs.List.{join_with_byte, list_all, position, position_or_len, slice_split}
use Rattle.std.specs.Str.Parse.{AllDigits, digits_value}
use Rattle.agg_types.specs.Name.{is_name, is_printable}
use Rattle.line_words.specs.Numbers.{is_decimal, number_of}
use Rattle.line_words.specs.Words.{parts, words}

pub both : (a b : Bool) → (a && b) ≡ true → (a ≡ true) × (b ≡ true)
both true b h = (refl, h)
both false b h = absurd cc

-- ---- lists of bytes that pass a test

-- a weaker test
pub list_all-weaker : (p q : ℕ → Bool) → ((byte : ℕ) → p byte ≡ true → q byte ≡ true)
    → (bytes : List ℕ) → list_all p bytes ≡ true → list_all q bytes ≡ true
list_all-weaker p q weaker [] all = refl
list_all-weaker p q weaker (byte ∷ bytes) all =
    let h = both (p byte) (list_all p bytes) all in
    rw (weaker byte h.0, list_all-weaker p q weaker bytes h.1) refl

-- ---- parts

-- whether a byte isn't this one
abbrev pub differs : ℕ → ℕ → Bool
differs c byte = not (eqb byte c)

pub same_byte : (c : ℕ) → eqb c c ≡ true
same_byte c = grind (arith, nat_tests)

-- a part before the byte between parts
pub split_front : (c : ℕ) (front rest : List ℕ) → list_all (differs c) front ≡ true
    → slice_split (λ b. eqb b c) (front ++ c ∷ rest) ≡ front ∷ slice_split (λ b. eqb b c) rest
split_front c [] rest free = rw (same_byte c) refl
split_front c (x ∷ front) rest free =
    elim (cases_Bool (eqb x c)) [
      | inl same ↦ absurd (let bad : false ≡ true = rw same at free in cc)
      | inr other ↦
          let less : list_all (differs c) front ≡ true = rw other at free in
          rw (other, split_front c front rest less) refl
    ]

-- the last part
split_last : (c : ℕ) (front : List ℕ) → list_all (differs c) front ≡ true
    → slice_split (λ b. eqb b c) front ≡ front ∷ []
split_last c [] free = refl
split_last c (x ∷ front) free =
    elim (cases_Bool (eqb x c)) [
      | inl same ↦ absurd (let bad : false ≡ true = rw same at free in cc)
      | inr other ↦
          let less : list_all (differs c) front ≡ true = rw other at free in
          rw (other, split_last c front less) refl
    ]

split_join : (c : ℕ) (front : List ℕ) (others : List (List ℕ))
    → list_all (list_all (differs c)) (front ∷ others) ≡ true
    → slice_split (λ b. eqb b c) (join_with_byte c (front ∷ others)) ≡ front ∷ others
split_join c front [] free = split_last c front (both (list_all (differs c) front) true free).0
split_join c front (next ∷ others) free =
    let h = both (list_all (differs c) front) (list_all (list_all (differs c)) (next ∷ others))
    free in
    split_front c front (join_with_byte c (next ∷ others)) h.0
    ∙ ap (λ more. front ∷ more) (split_join c next others h.1)

-- parts that were joined come apart again
pub parts-join : (c : ℕ) (front : List ℕ) (others : List (List ℕ))
    → list_all (list_all (differs c)) (front ∷ others) ≡ true
    → parts c (join_with_byte c (front ∷ others)) ≡ front ∷ others
unfolding parts
parts-join c front others free = split_join c front others free

pub join_some : (c : ℕ) (text : List ℕ) (texts : List (List ℕ)) → 1 ≤ length text
    → 1 ≤ length (join_with_byte c (text ∷ texts))
join_some c text [] some = some
join_some c text (next ∷ texts) some =
    omega (arith, some, length-append text (c ∷ join_with_byte c (next ∷ texts)))

-- a place that the first passing element has
pub position_at : {A : Type 0} (p : A → Bool) (xs : List A) (i : ℕ) → position_or_len p xs ≡ i
    → i < length xs → position p xs ≡ Some i
position_at p xs i e below =
    let small : ltb i (length xs) ≡ true = grind (arith, nat_tests) in rw (e, small) refl

-- ---- words

-- whether bytes may be a word of a line: some of them, all printable
abbrev pub is_word : List ℕ → Bool
is_word word = not (eqb (length word) 0) && list_all is_printable word

printable_no_space : (byte : ℕ) → is_printable byte ≡ true → differs 32 byte ≡ true
printable_no_space byte prints = grind (arith, nat_tests)

no_spaces : (texts : List (List ℕ)) → list_all is_word texts ≡ true
    → list_all (list_all (differs 32)) texts ≡ true
no_spaces [] all = refl
no_spaces (text ∷ texts) all =
    let h = both (is_word text) (list_all is_word texts) all in
    let prints = (both (not (eqb (length text) 0)) (list_all is_printable text) h.0).1 in
    rw (
      list_all-weaker is_printable (differs 32) printable_no_space text prints,
      no_spaces texts h.1,
    ) refl

none_empty : (texts : List (List ℕ)) → list_all is_word texts ≡ true
    → filter (λ word. not (eqb (length word) 0)) texts ≡ texts
none_empty [] all = refl
none_empty (text ∷ texts) all =
    let h = both (is_word text) (list_all is_word texts) all in
    let some = (both (not (eqb (length text) 0)) (list_all is_printable text) h.0).0 in
    rw some (ap (λ more. text ∷ more) (none_empty texts h.1))

-- words that were joined are the words of the line
pub words_back : (texts : List (List ℕ)) → list_all is_word texts ≡ true
    → words (join_with_byte 32 texts) ≡ texts
unfolding words
words_back [] all = refl
words_back (text ∷ texts) all =
    ap (λ parts. filter (λ word. not (eqb (length word) 0)) parts)
    (split_join 32 text texts (no_spaces (text ∷ texts) all))
    ∙ none_empty (text ∷ texts) all

pub some_byte : (n : ℕ) → 1 ≤ n → not (eqb n 0) ≡ true
some_byte n some = grind (arith, nat_tests)

-- a name is a word
pub name_is_word : (name : List ℕ) → is_name name ≡ true → is_word name ≡ true
name_is_word name is =
    let h = both (leb 1 (length name) && leb (length name) 128) (list_all is_printable name) is in
    let some = leb-true 1 (length name)
    (both (leb 1 (length name)) (leb (length name) 128) h.0).0 in
    rw (some_byte (length name) some, h.1) refl

-- ---- numbers

digit_is_decimal : (byte : ℕ) → 48 ≤ byte → byte ≤ 57 → is_decimal byte ≡ true
digit_is_decimal byte low high = grind (arith, nat_tests)

are_decimal : (digits : List ℕ) → AllDigits 10 digits → list_all is_decimal digits ≡ true
are_decimal [] h = refl
are_decimal (byte ∷ digits) h =
    let range = digit_from_value byte h.0 in
    rw (digit_is_decimal byte range.0 range.1, are_decimal digits h.1) refl

-- the digits of a number are digits
pub digits_of-decimal : (n : ℕ) → n < 2 ^ 64 → list_all is_decimal (decimal n) ≡ true
digits_of-decimal n fits = are_decimal (decimal n) (decimal_is_IsNumeral n fits).0.1

pub decimal_prints : (byte : ℕ) → is_decimal byte ≡ true → is_printable byte ≡ true
decimal_prints byte digit = grind (arith, nat_tests)

-- a number is a word
pub number_is_word : (n : ℕ) → n < 2 ^ 64 → is_word (decimal n) ≡ true
number_is_word n fits =
    let h = decimal_is_IsNumeral n fits in
    let some : not (eqb (length (decimal n)) 0) ≡ true =
    some_byte (length (decimal n)) (omega (arith, h.0.0)) in
    rw (
      some,
      list_all-weaker is_decimal is_printable decimal_prints (decimal n)
          (digits_of-decimal n fits),
    ) refl

number_read : (text : List ℕ) (n : ℕ) → 1 ≤ length text → length text ≤ 20
    → list_all is_decimal text ≡ true → digits_value 10 text ≡ n → n < 2 ^ 64
    → number_of text ≡ Ok n
unfolding number_of
number_read text n some short digits value fits =
    let none : eqb (length text) 0 ≡ false = grind (arith, nat_tests) in
    let long : ltb 20 (length text) ≡ false = grind (arith, nat_tests) in
    let small : ltb n (2 ^ 64) ≡ true = grind (arith, nat_tests) in
    rw (none, digits, long, value, small) refl

-- the digits of a number are read as the number
pub number_back : (n : ℕ) → n < 2 ^ 64 → number_of (decimal n) ≡ Ok n
number_back n fits =
    let h = decimal_is_IsNumeral n fits in
    let short : length (decimal n) ≤ 20 =
    length-decimal-le 20 n (omega arith) (omega arith) (omega arith) in
    number_read (decimal n) n (omega (arith, h.0.0)) short (digits_of-decimal n fits) h.1 fits
