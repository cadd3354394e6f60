-- The words of commands, how long they are, and how a line of them is read.
use Rattle.std.proofs.Common.{◌≡◌, ℕ, zero, suc, ◌+◌, ◌*◌, ◌-◌, ◌/◌, ◌%◌, ◌^◌, ◌<◌, ◌≤◌, Bool}
use Rattle.std.proofs.Common.{true, false, eqb, leb, ltb, ◌&&◌, not, List, [], ◌∷◌, ◌++◌, length}
use Rattle.std.proofs.Common.{map, get_or, Some, Err, codes, refl, ap, ◌∙◌, arith, inl, inr}
use Rattle.std.proofs.Common.{length-append}
use Rattle.std.specs.Prelude.{if◌then◌else◌, nat_lt}
use Rattle.std.proofs.lemmas.Bool.{cases_Bool, eqb-true, leb-true, ltb-true}
use Rattle.std.proofs.lemmas.Bool.Decides.{nat_tests}
use Rattle.std.specs.Fmt.{decimal, digit_glyph, digits, digits_onto}
use Rattle.std.specs.Int.{w32, from_be_bytes}
use Rattle.std.specs.List.{flat_map, join_with_byte, list_all}
use Rattle.agg_types.specs.Check.{is_within, len_fits}
use Rattle.agg_types.specs.Col.{col_name}
use Rattle.agg_types.specs.Fits.{key_fits}
use Rattle.agg_types.specs.Name.{is_name, is_printable}
use Rattle.agg_types.specs.declared.column.Col.{Col}
use Rattle.agg_types.specs.declared.column.Col.TheVariants as column
use Rattle.agg_types.specs.declared.config.Cond.{Cond}
use Rattle.agg_types.specs.declared.config.KeyKind.{KeyKind}
use Rattle.agg_types.specs.declared.config.KeyKind.TheVariants.{Integer, Ip, Ipv6, Str, Binary}
use Rattle.agg_types.specs.declared.config.Op.{Op}
use Rattle.agg_types.specs.declared.config.Op.TheVariants as operators
use Rattle.agg_types.specs.declared.limits.TheConstants.{LONGEST_COMMAND_LINE, LONGEST_KEY}
use Rattle.agg_types.specs.declared.limits.TheConstants.{LONGEST_NAME}
use Rattle.fleet_model.specs.State.{State}
use Rattle.key_text.specs.Printed.{escaped, groups, hex_of, integer_text, is_plain, key_text}
use Rattle.key_text.specs.Printed.{signed_text}
use Rattle.key_text.specs.Read.{key_of}
use Rattle.key_text.proofs.KeyBack.{key_back as printed_back}
use Rattle.line_words.specs.Operators.{operator_word}
use Rattle.line_words.specs.Words.{words}
use Rattle.line_words.proofs.NamesBack.{data_is_word, operator_is_word}
use Rattle.line_words.proofs.TextLines.{is_line_byte, line_bytes}
use Rattle.line_words.proofs.WordsBack.{both, differs, is_word, join_some}
use Rattle.line_words.proofs.WordsBack.{number_is_word, some_byte, words_back}
use Rattle.show_clear.specs.Parse.{asked, command_of, without_returns}
use Rattle.show_clear.specs.declared.fault.CommandFault.TheVariants.{Unknown}
use Rattle.line_words.specs.Conditions.{condition_words}
use Rattle.show_clear.specs.Written.{can_name}
use Rattle.show_clear.proofs.KeyBytes.{Prints, and_true, decimal_some, key_passes, lower_digits}

-- ---- how long words are

-- what the words of a line take, each with a space
abbrev pub cost : List (List ℕ) → ℕ
cost [] = 0
cost (text ∷ texts) = length text + 1 + cost texts

pub join_cost : (c : ℕ) (texts : List (List ℕ)) → length (join_with_byte c texts) ≤ cost texts
join_cost c [] = omega arith
join_cost c (text ∷ []) = omega arith
join_cost c (text ∷ next ∷ texts) =
    omega (
      arith,
      join_cost c (next ∷ texts),
      length-append text (c ∷ join_with_byte c (next ∷ texts)),
    )

digits_short : (k n : ℕ) (behind : List ℕ)
    → length (digits_onto k 10 false n behind) ≤ k + length behind
digits_short zero n behind = omega arith
digits_short (suc k) n behind =
    elim (cases_Bool (eqb (n / 10) 0)) [
      | inl last ↦ rw last (omega arith)
      | inr next ↦
          let more = digits_short k (n / 10) (digit_glyph false (n % 10) ∷ behind) in
          rw next (omega (arith, more))
    ]

-- a number has at most 64 digits
pub decimal_short : (n : ℕ) → length (decimal n) ≤ 64
unfolding digits
decimal_short n = omega (arith, digits_short 64 n [])

col_short : (col : Col) → length (col_name col) ≤ 14
col_short column.Gpc0 = omega arith
col_short col = omega arith

operator_short : (op : Op) → length (operator_word op) ≤ 2
operator_short operators.Eq = omega arith
operator_short op = omega arith

pub conditions_cost : (conds : List Cond) → cost (flat_map condition_words conds)
    ≤ 100 * length conds
conditions_cost [] = omega arith
conditions_cost (cond ∷ conds) =
    omega (
      arith,
      col_short cond.col,
      operator_short cond.op,
      decimal_short cond.bound,
      conditions_cost conds,
      length-append (codes "data.") (col_name cond.col),
    )

pub name_short : (name : List ℕ) → is_name name ≡ true → length name ≤ LONGEST_NAME
name_short name is =
    let h = both (leb 1 (length name) && leb (length name) LONGEST_NAME)
    (list_all is_printable name) is in
    leb-true (length name) LONGEST_NAME
    (both (leb 1 (length name)) (leb (length name) LONGEST_NAME) h.0).1

-- ---- how long the text of a key is

signed_short : (n : ℕ) → length (signed_text n) ≤ 65
signed_short n =
    elim (cases_Bool (ltb n (2 ^ 31))) [
      | inl low ↦ rw low (omega (arith, decimal_short n))
      | inr high ↦ rw high (omega (arith, decimal_short (2 ^ 32 - n)))
    ]

integer_short : (key : List ℕ) → length (integer_text key) ≤ 65
integer_short [] = omega arith
integer_short (a ∷ []) = omega arith
integer_short (a ∷ b ∷ []) = omega arith
integer_short (a ∷ b ∷ c ∷ []) = omega arith
integer_short (a ∷ b ∷ c ∷ d ∷ []) = signed_short (from_be_bytes w32 (a ∷ b ∷ c ∷ d ∷ []))
integer_short (a ∷ b ∷ c ∷ d ∷ e ∷ rest) = omega arith

octets_cost : (key : List ℕ) → cost (map decimal key) ≤ 65 * length key
octets_cost [] = omega arith
octets_cost (byte ∷ key) = omega (arith, decimal_short byte, octets_cost key)

groups_cost : (key : List ℕ) → cost (groups key) ≤ 5 * length key
groups_cost [] = omega arith
groups_cost (last ∷ []) = omega arith
groups_cost (high ∷ low ∷ key) = omega (arith, groups_cost key)

escaped_short : (byte : ℕ) → length (escaped byte) ≤ 3
escaped_short byte =
    elim (cases_Bool (is_plain byte)) [
      | inl plain ↦ rw plain (omega arith)
      | inr other ↦ rw other (omega arith)
    ]

string_short : (key : List ℕ) → length (flat_map escaped key) ≤ 3 * length key
string_short [] = omega arith
string_short (byte ∷ key) =
    omega (
      arith,
      escaped_short byte,
      string_short key,
      length-append (escaped byte) (flat_map escaped key),
    )

binary_short : (key : List ℕ) → length (flat_map hex_of key) ≤ 2 * length key
binary_short [] = omega arith
binary_short (byte ∷ key) = omega (arith, binary_short key)

within_most : (n most : ℕ) → is_within n most ≡ true → n ≤ most
within_most n most h = leb-true n most (both (leb 1 n) (leb n most) h).1

pub key_short : (kind : KeyKind) (key : List ℕ) → len_fits kind ≡ true → key_fits kind key ≡ true
    → length (key_text kind key) ≤ 3 * LONGEST_KEY
key_short Integer key len fits = omega (arith, integer_short key)
key_short Ip key len fits =
    omega (arith, join_cost 46 (map decimal key), octets_cost key, eqb-true (length key) 4 fits)
key_short Ipv6 key len fits =
    omega (arith, join_cost 58 (groups key), groups_cost key, eqb-true (length key) 16 fits)
key_short (Str n) key len fits =
    omega (arith, string_short key, leb-true (length key) n fits, within_most n LONGEST_KEY len)
key_short (Binary n) key len fits =
    omega (arith, binary_short key, eqb-true (length key) n fits, within_most n LONGEST_KEY len)

-- ---- the text of a key is a word

get_passes : (p : ℕ → Bool) (xs : List ℕ) (i : ℕ) → list_all p xs ≡ true → i < length xs
    → p (get_or xs i 0) ≡ true
get_passes p [] i all within = absurd (omega (arith, within))
get_passes p (x ∷ xs) zero all within = (both (p x) (list_all p xs) all).0
get_passes p (x ∷ xs) (suc i) all within =
    get_passes p xs i (both (p x) (list_all p xs) all).1 (omega (arith, within))

abbrev is_byte : ℕ → Bool
is_byte byte = ltb byte (2 ^ 8)

hex_prints : (byte : ℕ) → is_byte byte ≡ true → list_all is_printable (hex_of byte) ≡ true
hex_prints byte is =
    let small : byte < 256 = ltb-true byte 256 is in
    and_true (is_printable (get_or lower_digits (byte / 16) 0))
    (list_all is_printable (get_or lower_digits (byte % 16) 0 ∷ []))
    (get_passes is_printable lower_digits (byte / 16) refl (omega (arith, small)))
    (and_true (is_printable (get_or lower_digits (byte % 16) 0)) true
    (get_passes is_printable lower_digits (byte % 16) refl (omega arith)) refl)

key_prints : Prints is_printable is_byte
key_prints = record { printed = λ byte prints. prints; hex = hex_prints }

signed_some : (n : ℕ) → 1 ≤ length (signed_text n)
signed_some n =
    elim (cases_Bool (ltb n (2 ^ 31))) [
      | inl low ↦ rw low (decimal_some n)
      | inr high ↦ rw high (omega arith)
    ]

integer_some : (key : List ℕ) → length key ≡ 4 → 1 ≤ length (integer_text key)
integer_some [] four = absurd (omega (arith, four))
integer_some (a ∷ []) four = absurd (omega (arith, four))
integer_some (a ∷ b ∷ []) four = absurd (omega (arith, four))
integer_some (a ∷ b ∷ c ∷ []) four = absurd (omega (arith, four))
integer_some (a ∷ b ∷ c ∷ d ∷ []) four = signed_some (from_be_bytes w32 (a ∷ b ∷ c ∷ d ∷ []))
integer_some (a ∷ b ∷ c ∷ d ∷ e ∷ rest) four = absurd (omega (arith, four))

octets_some : (key : List ℕ) → 1 ≤ length key → 1 ≤ length (join_with_byte 46 (map decimal key))
octets_some [] some = absurd (omega (arith, some))
octets_some (byte ∷ key) some = join_some 46 (decimal byte) (map decimal key) (decimal_some byte)

groups_some : (key : List ℕ) → 1 ≤ length key → 1 ≤ length (join_with_byte 58 (groups key))
groups_some [] some = absurd (omega (arith, some))
groups_some (last ∷ []) some = omega arith
groups_some (high ∷ low ∷ key) some =
    join_some 58 (hex_of high ++ hex_of low) (groups key) (omega arith)

escaped_some : (byte : ℕ) → 1 ≤ length (escaped byte)
escaped_some byte =
    elim (cases_Bool (is_plain byte)) [
      | inl plain ↦ rw plain (omega arith)
      | inr other ↦ rw other (omega arith)
    ]

string_some : (key : List ℕ) → 1 ≤ length key → 1 ≤ length (flat_map escaped key)
string_some [] some = absurd (omega (arith, some))
string_some (byte ∷ key) some =
    omega (arith, escaped_some byte, length-append (escaped byte) (flat_map escaped key))

binary_some : (key : List ℕ) → 1 ≤ length key → 1 ≤ length (flat_map hex_of key)
binary_some [] some = absurd (omega (arith, some))
binary_some (byte ∷ key) some = omega arith

key_some : (kind : KeyKind) (key : List ℕ) → key_fits kind key ≡ true → 1 ≤ length key
    → 1 ≤ length (key_text kind key)
key_some Integer key fits some = integer_some key (eqb-true (length key) 4 fits)
key_some Ip key fits some = octets_some key some
key_some Ipv6 key fits some = groups_some key some
key_some (Str n) key fits some = string_some key some
key_some (Binary n) key fits some = binary_some key some

-- what a key that can be written has
pub record CanName (key : List ℕ) : Type 0 where
  pub some : 1 ≤ length key
  pub bytes : list_all is_byte key ≡ true

pub names_key : (key : List ℕ) → can_name key ≡ true → CanName key
names_key key can =
    let h = both (leb 1 (length key)) (list_all is_byte key) can in
    record { some = leb-true 1 (length key) h.0; bytes = h.1 }

pub key_is_word : (kind : KeyKind) (key : List ℕ) → key_fits kind key ≡ true
    → can_name key ≡ true → is_word (key_text kind key) ≡ true
key_is_word kind key fits can =
    let h = names_key key can in
    and_true (not (eqb (length (key_text kind key)) 0)) (list_all is_printable (key_text kind key))
    (some_byte (length (key_text kind key)) (key_some kind key fits h.some))
    (key_passes is_printable is_byte key_prints kind key h.bytes)

-- ---- a key is read back

each_byte : (key : List ℕ) → list_all is_byte key ≡ true → (i : ℕ) → get_or key i 0 < 256
each_byte [] all i = omega arith
each_byte (byte ∷ key) all zero =
    ltb-true byte 256 (both (is_byte byte) (list_all is_byte key) all).0
each_byte (byte ∷ key) all (suc i) =
    each_byte key (both (is_byte byte) (list_all is_byte key) all).1 i

pub key_back : (kind : KeyKind) (key : List ℕ) → key_fits kind key ≡ true → can_name key ≡ true
    → key_of kind (key_text kind key) ≡ Some key
key_back kind key fits can =
    printed_back kind key fits (each_byte key (names_key key can).bytes)

-- ---- a line of words

no_returns : (line : List ℕ) → list_all is_line_byte line ≡ true → without_returns line ≡ line
no_returns [] all = refl
no_returns (byte ∷ line) all =
    let h = both (is_line_byte byte) (list_all is_line_byte line) all in
    let other = not_so (eqb byte 13) (both (differs 10 byte) (differs 13 byte) h.0).1 in
    rw (other, no_returns line h.1) refl
  where
    not_so : (b : Bool) → not b ≡ true → b ≡ false
    not_so true bad = absurd cc
    not_so false fine = refl

not_long : (most n : ℕ) → n ≤ most → ltb most n ≡ false
not_long most n short = grind (arith, nat_tests)

-- what a line of words asks for
pub line_asks : (state : State) (texts : List (List ℕ)) → list_all is_word texts ≡ true
    → cost texts ≤ LONGEST_COMMAND_LINE
    → command_of state (join_with_byte 32 texts) ≡ asked state texts
line_asks state texts all short =
    let line = join_with_byte 32 texts in
    let whole : without_returns line ≡ line = no_returns line (line_bytes texts all) in
    let long : ltb LONGEST_COMMAND_LINE (length line) ≡ false =
    not_long LONGEST_COMMAND_LINE (length line) (omega (arith, join_cost 32 texts, short)) in
    ap (λ (text : List ℕ). if nat_lt LONGEST_COMMAND_LINE (length text) then Err Unknown
    else asked state (words text)) whole
    ∙ rw long (ap (λ ws. asked state ws) (words_back texts all))
