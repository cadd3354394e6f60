-- The columns of a table that are written are read back.
use Rattle.std.proofs.Common.{◌≡◌, ℕ, ◌+◌, ◌-◌, ◌^◌, ◌<◌, ◌≤◌, Bool, true, false, eqb, leb, ltb}
use Rattle.std.proofs.Common.{◌&&◌, List, [], ◌∷◌, ◌++◌, length, map, take, drop}
use Rattle.std.proofs.Common.{slice_index, min, None, Some, Ok, Result, refl, ap, ◌∙◌}
use Rattle.std.proofs.Common.{arith, inl, inr, length-append}
use Rattle.std.proofs.lemmas.Bool.{cases_Bool, eqb-true, ltb-true, ne_eqb}
use Rattle.std.proofs.lemmas.Bool.Decides.{nat_tests}
use Rattle.std.proofs.lemmas.List.Folds.{list_all-append}
use Rattle.std.proofs.Math.Seq.{take-append_seam}
use Rattle.std.specs.Fmt.{decimal}
use Rattle.std.specs.List.{join_with_byte, list_all, position, position_or_len}
use Rattle.agg_types.specs.Check.{ascends, ascends_above, period_fits}
use Rattle.agg_types.specs.Col.{all_cols, col_id, col_name, is_rate}
use Rattle.agg_types.specs.Name.{is_printable}
use Rattle.agg_types.specs.declared.column.Col.{Col}
use Rattle.agg_types.specs.declared.column.Col.TheVariants as column
use Rattle.line_words.specs.Numbers.{is_decimal, number_of}
use Rattle.line_words.specs.declared.misread.Misread.{Misread}
use Rattle.agg_config.specs.Columns.{in_order, item, known_period, of_column, ordered_by}
use Rattle.agg_config.specs.Columns.{rate_item, stored}
use Rattle.agg_config.specs.ReadResults.{read_each}
use Rattle.agg_config.specs.Written.{column_text, store_words}
use Rattle.line_words.proofs.WordsBack.{both, differs, digits_of-decimal, is_word, list_all-weaker}
use Rattle.line_words.proofs.WordsBack.{join_some}
use Rattle.line_words.proofs.WordsBack.{number_back, parts-join, position_at, some_byte}
use Rattle.line_words.proofs.NamesBack.{column_back}

-- ---- one column

-- what stands in an item: no comma
abbrev is_item_byte : ℕ → Bool
is_item_byte byte = is_printable byte && differs 44 byte

name_bytes : (col : Col) → list_all is_item_byte (col_name col) ≡ true
name_bytes column.Gpc0 = refl
name_bytes col = refl

name_some : (col : Col) → 1 ≤ length (col_name col)
name_some column.Gpc0 = omega arith
name_some col = omega arith

decimal_in_item : (byte : ℕ) → is_decimal byte ≡ true → is_item_byte byte ≡ true
decimal_in_item byte digit = grind (arith, nat_tests)

period_below : (col : Col) (ms : ℕ) → is_rate col ≡ true → period_fits (col, ms) ≡ true
    → ms < 2 ^ 31
period_below col ms rate fits =
    let h : (leb 1 ms && ltb ms (2 ^ 31)) ≡ true = rw rate at fits in
    ltb-true ms (2 ^ 31) (both (leb 1 ms) (ltb ms (2 ^ 31)) h).1

no_period : (col : Col) (ms : ℕ) → is_rate col ≡ false → period_fits (col, ms) ≡ true → ms ≡ 0
no_period col ms count fits = let h : eqb ms 0 ≡ true = rw count at fits in eqb-true ms 0 h

rate_bytes : (name : List ℕ) (ms : ℕ) → list_all is_item_byte name ≡ true → ms < 2 ^ 64
    → list_all is_item_byte (name ++ 40 ∷ (decimal ms ++ 41 ∷ [])) ≡ true
rate_bytes name ms named fits =
    list_all-append is_item_byte name (40 ∷ (decimal ms ++ 41 ∷ []))
    ∙ rw (
      named,
      list_all-append is_item_byte (decimal ms) (41 ∷ []),
      list_all-weaker is_decimal is_item_byte decimal_in_item (decimal ms)
          (digits_of-decimal ms fits),
    ) refl

text_bytes : (col : Col) (ms : ℕ) → period_fits (col, ms) ≡ true
    → list_all is_item_byte (column_text (col, ms)) ≡ true
text_bytes col ms fits =
    elim (cases_Bool (is_rate col)) [
      | inl rate ↦ rw rate (rate_bytes (col_name col) ms (name_bytes col)
          (omega (arith, period_below col ms rate fits)))
      | inr count ↦ rw count (name_bytes col)
    ]

text_some : (col : Col) (ms : ℕ) → 1 ≤ length (column_text (col, ms))
text_some col ms =
    elim (cases_Bool (is_rate col)) [
      | inl rate ↦ rw rate (omega (
        arith,
        name_some col,
        length-append (col_name col) (40 ∷ (decimal ms ++ 41 ∷ [])),
      ))
      | inr count ↦ rw count (name_some col)
    ]

last_at : (front : List ℕ) (last : ℕ) → slice_index (front ++ last ∷ []) (length front) ≡ last
last_at [] last = refl
last_at (byte ∷ front) last = last_at front last

rate_read : (place : ℕ) (col : Col) (text word : List ℕ) (ms : ℕ) → is_rate col ≡ true
    → 2 ≤ length text → slice_index text (length text - 1) ≡ 41
    → take (length text - 2) (drop 1 text) ≡ word → number_of word ≡ Ok ms → ms < 2 ^ 31
    → rate_item place col text ≡ Ok (col, Ok ms)
rate_read place col text word ms rate long last inside read below =
    let two : leb 2 (length text) ≡ true = grind (arith, nat_tests) in
    let least : min ms (2 ^ 32 - 1) ≡ ms = grind (arith, nat_tests) in
    rw (rate, two, last, inside, read, least) refl

rate_back : (place : ℕ) (col : Col) (ms : ℕ) → is_rate col ≡ true → ms < 2 ^ 31
    → rate_item place col (40 ∷ (decimal ms ++ 41 ∷ [])) ≡ Ok (col, Ok ms)
rate_back place col ms rate below =
    let text : List ℕ = 40 ∷ (decimal ms ++ 41 ∷ []) in
    let long : length text ≡ length (decimal ms) + 2 =
    omega (arith, length-append (decimal ms) (41 ∷ [])) in
    let before_last : length text - 1 ≡ length (40 ∷ decimal ms) = omega (arith, long) in
    let inside : length text - 2 ≡ length (decimal ms) = omega (arith, long) in
    rate_read place col text (decimal ms) ms rate (omega (arith, long))
    (ap (λ i. slice_index text i) before_last ∙ last_at (40 ∷ decimal ms) 41)
    (ap (λ i. take i (decimal ms ++ 41 ∷ [])) inside ∙ take-append_seam (decimal ms) (41 ∷ []))
    (number_back ms (omega (arith, below))) below

named_position : (col : Col) → position (λ byte. eqb byte 40) (col_name col) ≡ None
named_position column.Gpc0 = refl
named_position col = refl

count_item_back : (place : ℕ) (col : Col) → is_rate col ≡ false
    → item place (col_name col) ≡ Ok (col, Ok 0)
unfolding item
count_item_back place col count = rw (named_position col, column_back col, count) refl

name_ends : (col : Col) (rest : List ℕ)
    → position_or_len (λ byte. eqb byte 40) (col_name col ++ 40 ∷ rest) ≡ length (col_name col)
name_ends column.Gpc0 rest = refl
name_ends col rest = refl

rest_is : (front rest : List ℕ) → drop (length front) (front ++ rest) ≡ rest
rest_is [] rest = refl
rest_is (byte ∷ front) rest = rest_is front rest

rate_item_back : (place : ℕ) (col : Col) (rest : List ℕ)
    → item place (col_name col ++ 40 ∷ rest) ≡ rate_item place col (40 ∷ rest)
unfolding item
rate_item_back place col rest =
    let begins : position (λ byte. eqb byte 40) (col_name col ++ 40 ∷ rest)
    ≡ Some (length (col_name col)) =
    position_at (λ byte. eqb byte 40) (col_name col ++ 40 ∷ rest) (length (col_name col))
    (name_ends col rest) (omega (arith, length-append (col_name col) (40 ∷ rest))) in
    rw (
      begins,
      take-append_seam (col_name col) (40 ∷ rest),
      rest_is (col_name col) (40 ∷ rest),
      column_back col,
    ) refl

item_back : (place : ℕ) (col : Col) (ms : ℕ) → period_fits (col, ms) ≡ true
    → item place (column_text (col, ms)) ≡ Ok (col, Ok ms)
item_back place col ms fits =
    elim (cases_Bool (is_rate col)) [
      | inl rate ↦ rw rate (rate_item_back place col (decimal ms ++ 41 ∷ [])
          ∙ rate_back place col ms rate (period_below col ms rate fits))
      | inr count ↦ rw (count, no_period col ms count fits) (count_item_back place col count)
    ]

-- ---- the list

-- a column as it is read
abbrev pub as_read : Col × ℕ → Col × Result ℕ Misread
as_read col = (col.0, Ok col.1)

items_back : (place : ℕ) (cols : List (Col × ℕ)) → list_all period_fits cols ≡ true
    → read_each (item place) (map column_text cols) ≡ Ok (map as_read cols)
items_back place [] all = refl
items_back place (col ∷ cols) all =
    let h = both (period_fits col) (list_all period_fits cols) all in
    rw (item_back place col.0 col.1 h.0, items_back place cols h.1) refl

pub periods_back : (cols : List (Col × ℕ)) → read_each known_period (map as_read cols) ≡ Ok cols
periods_back [] = refl
periods_back (col ∷ cols) = rw (periods_back cols) refl

comma_free : (byte : ℕ) → is_item_byte byte ≡ true → differs 44 byte ≡ true
comma_free byte h = (both (is_printable byte) (differs 44 byte) h).1

prints : (byte : ℕ) → is_item_byte byte ≡ true → is_printable byte ≡ true
prints byte h = (both (is_printable byte) (differs 44 byte) h).0

texts_free : (cols : List (Col × ℕ)) → list_all period_fits cols ≡ true
    → list_all (list_all (differs 44)) (map column_text cols) ≡ true
texts_free [] all = refl
texts_free (col ∷ cols) all =
    let h = both (period_fits col) (list_all period_fits cols) all in
    rw (
      list_all-weaker is_item_byte (differs 44) comma_free (column_text col)
          (text_bytes col.0 col.1 h.0),
      texts_free cols h.1,
    ) refl

join_prints : (cols : List (Col × ℕ)) → list_all period_fits cols ≡ true
    → list_all is_printable (join_with_byte 44 (map column_text cols)) ≡ true
join_prints [] all = refl
join_prints (col ∷ []) all =
    let h = both (period_fits col) true all in
    list_all-weaker is_item_byte is_printable prints (column_text col)
    (text_bytes col.0 col.1 h.0)
join_prints (col ∷ next ∷ cols) all =
    let h = both (period_fits col) (list_all period_fits (next ∷ cols)) all in
    list_all-append is_printable (column_text col)
    (44 ∷ join_with_byte 44 (map column_text (next ∷ cols)))
    ∙ rw (
      list_all-weaker is_item_byte is_printable prints (column_text col)
          (text_bytes col.0 col.1 h.0),
      join_prints (next ∷ cols) h.1,
    ) refl

pub store_are_words : (cols : List (Col × ℕ)) → list_all period_fits cols ≡ true
    → list_all is_word (store_words cols) ≡ true
store_are_words [] all = refl
store_are_words (col ∷ cols) all =
    rw (
      some_byte (length (join_with_byte 44 (map column_text (col ∷ cols))))
          (join_some 44 (column_text col) (map column_text cols) (text_some col.0 col.1)),
      join_prints (col ∷ cols) all,
    ) refl

pub stored_back : (number : ℕ) (cols : List (Col × ℕ)) → list_all period_fits cols ≡ true
    → stored (record { number = number; words = store_words cols }) ≡ Ok (map as_read cols)
stored_back number [] all = refl
stored_back number (col ∷ cols) all =
    rw (
      parts-join 44 (column_text col) (map column_text cols) (texts_free (col ∷ cols) all),
      items_back (number + 1) (col ∷ cols) all,
    ) refl

-- ---- their order

-- the columns' ids ascend, the first from this number on
abbrev From : ℕ → List (Col × ℕ) → Type 0
From least [] = Unit {0}
From least (col ∷ cols) = (least ≤ col_id col.0) × From (col_id col.0 + 1) cols

-- the order has each column whose id is this number or above, and ascends
abbrev Follows : ℕ → List Col → Type 0
Follows next [] = (c : Col) → col_id c < next
Follows next (col ∷ order) =
    (next ≤ col_id col) × ((c : Col) → next ≤ col_id c → col_id col ≤ col_id c)
    × Follows (col_id col + 1) order

none_of : (least : ℕ) (col : Col) (cols : List (Col × ℕ)) → From least cols → col_id col < least
    → of_column col cols ≡ []
none_of least col [] from below = refl
none_of least col (first ∷ cols) from below =
    let other : eqb (col_id first.0) (col_id col) ≡ false =
    ne_eqb (col_id first.0) (col_id col) (λ e. omega (arith, e, from.0, below)) in
    rw other (none_of (col_id first.0 + 1) col cols from.1 (omega (arith, from.0, below)))

passed : (next : ℕ) (order : List Col) (first : Col × ℕ) (cols : List (Col × ℕ))
    → Follows next order → col_id first.0 < next
    → ordered_by order (first ∷ cols) ≡ ordered_by order cols
passed next [] first cols follows below = refl
passed next (col ∷ order) first cols follows below =
    let least : next ≤ col_id col = follows.0 in
    let other : eqb (col_id first.0) (col_id col) ≡ false =
    ne_eqb (col_id first.0) (col_id col) (λ e. omega (arith, e, least, below)) in
    rw other (ap (λ rest. of_column col cols ++ rest)
    (passed (col_id col + 1) order first cols follows.2 (omega (arith, least, below))))

ordered : (next : ℕ) (order : List Col) (cols : List (Col × ℕ)) → Follows next order
    → From next cols → ordered_by order cols ≡ cols
ordered next [] [] follows from = refl
ordered next [] (first ∷ cols) follows from = absurd (omega (arith, from.0, follows first.0))
ordered next (col ∷ order) [] follows from = ordered (col_id col + 1) order [] follows.2 tt
ordered next (col ∷ order) (first ∷ cols) follows from =
    elim (cases_Bool (eqb (col_id first.0) (col_id col))) [
      | inl same ↦
          let is : col_id first.0 ≡ col_id col = eqb-true _ _ same in
          rw (same, none_of (col_id first.0 + 1) col cols from.1 (omega (arith, is)))
          (ap (λ rest. first ∷ rest)
          (passed (col_id col + 1) order first cols follows.2 (omega (arith, is))
          ∙ ordered (col_id col + 1) order cols follows.2
          (again (col_id first.0 + 1) (col_id col + 1) cols (omega (arith, is)) from.1)))
      | inr other ↦
          let least : col_id col ≤ col_id first.0 = follows.1 first.0 from.0 in
          let above : col_id col + 1 ≤ col_id first.0 = grind (arith, nat_tests, other, least) in
          rw (other, none_of (col_id first.0 + 1) col cols from.1 (omega (arith, above)))
          (ordered (col_id col + 1) order (first ∷ cols) follows.2 (above, from.1))
    ]
  where
    again : (a b : ℕ) (cols : List (Col × ℕ)) → a ≡ b → From a cols → From b cols
    again a b cols e from = rw (← e) from

ascending : (last : ℕ) (cols : List (Col × ℕ))
    → ascends_above last (map (λ col. col_id col.0) cols) ≡ true → From (last + 1) cols
ascending last [] h = tt
ascending last (col ∷ cols) h =
    let p = both (ltb last (col_id col.0))
    (ascends_above (col_id col.0) (map (λ col. col_id col.0) cols)) h in
    let above = ltb-true last (col_id col.0) p.0 in
    (omega (arith, above), ascending (col_id col.0) cols p.1)

least_id : (col : Col) → 2 ≤ col_id col
least_id column.Gpc0 = omega arith
least_id col = omega arith

most_id : (col : Col) → col_id col < 27
most_id column.Gpc0 = omega arith
most_id col = omega arith

-- no column has a dictionary's data type, and none that of an array
behind_dictionary : (col : Col) → 19 ≤ col_id col → 20 ≤ col_id col
behind_dictionary column.Gpc0 least = omega (arith, least)
behind_dictionary col least = omega (arith, least)

behind_arrays : (col : Col) → 22 ≤ col_id col → 25 ≤ col_id col
behind_arrays column.Gpc0 least = omega (arith, least)
behind_arrays col least = omega (arith, least)

all_follow : Follows 2 all_cols
all_follow = (
  omega arith,
  λ c least. least,
  (
    omega arith,
    λ c least. least,
    (
      omega arith,
      λ c least. least,
      (
        omega arith,
        λ c least. least,
        (
          omega arith,
          λ c least. least,
          (
            omega arith,
            λ c least. least,
            (
              omega arith,
              λ c least. least,
              (
                omega arith,
                λ c least. least,
                (
                  omega arith,
                  λ c least. least,
                  others,
                ),
              ),
            ),
          ),
        ),
      ),
    ),
  ),
)
  where
    newer : Follows 19 (drop 17 all_cols)
    newer = (
      omega arith,
      behind_dictionary,
      (
        omega arith,
        λ c least. least,
        (
          omega arith,
          behind_arrays,
          (
            omega arith,
            λ c least. least,
            most_id,
          ),
        ),
      ),
    )

    others : Follows 11 (drop 9 all_cols)
    others = (
      omega arith,
      λ c least. least,
      (
        omega arith,
        λ c least. least,
        (
          omega arith,
          λ c least. least,
          (
            omega arith,
            λ c least. least,
            (
              omega arith,
              λ c least. least,
              (
                omega arith,
                λ c least. least,
                (
                  omega arith,
                  λ c least. least,
                  (
                    omega arith,
                    λ c least. least,
                    newer,
                  ),
                ),
              ),
            ),
          ),
        ),
      ),
    )

from_ascends : (cols : List (Col × ℕ)) → ascends (map (λ col. col_id col.0) cols) ≡ true
    → From 2 cols
from_ascends [] h = tt
from_ascends (col ∷ cols) h = (least_id col.0, ascending (col_id col.0) cols h)

-- columns in ascending order stay as they are
pub in_order_same : (cols : List (Col × ℕ)) → ascends (map (λ col. col_id col.0) cols) ≡ true
    → in_order cols ≡ cols
unfolding in_order
in_order_same cols h = ordered 2 all_cols cols all_follow (from_ascends cols h)
