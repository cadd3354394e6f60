-- Marks that are packed.
use Rattle.std.proofs.Common.{◌≡◌, ℕ, ◌+◌, ◌≤◌, Bool, true, false, List, [], ◌∷◌, ◌++◌, length}
use Rattle.std.proofs.Common.{take, drop, refl, Option, None, Some}
use Rattle.std.proofs.Common.{ap, append_assoc, arith, get_or, length-drop, subst, sym, ◌∙◌, ◌<◌}
use Rattle.std.specs.Prelude.{if◌then◌else◌, nat_lt}
use Rattle.std.specs.List.{sum_by}
use Rattle.std.proofs.lemmas.List.Sums.{sum_by-cons, sum_by_push}
use Rattle.std.proofs.lemmas.List.{length-append, length-map, map-append, nil_from_length}
use Rattle.std.proofs.lemmas.List.{get_or_default, take_all}
use Rattle.std.proofs.lemmas.List.{take-append-le, drop-append-le}
use Rattle.std.proofs.Math.Seq.{drop-append_seam}
use Rattle.std.specs.List.{AllByRecursion}
use Rattle.pushed_keys.specs.Packed.{IsFrom, IsLast, IsNotBefore, IsPart, IsWord, least_with}
use Rattle.pushed_keys.specs.Packed.{len_in, lesser, moment, moments, unpacked, with_puts}
use Rattle.pushed_keys.specs.declared.least.Least.{Least}
use Rattle.pushed_keys.specs.declared.parts.TheConstants.{LEFT}
use Rattle.pushed_keys.specs.declared.told.Mark.{Mark}
use Rattle.pushed_keys.proofs.Rest.{drop_here}

-- the first mark of all, where there are no others
first_mark : (key : List ℕ) (word put : ℕ) (is_in : Bool) → IsWord word (length key) is_in
    → unpacked key (word ∷ []) (put ∷ []) ≡ record { key = key; put = put; is_in = is_in } ∷ []
first_mark key word put is_in is =
    let whole : take (len_in word) key ≡ key = take_all (len_in word) key
    (let long = is.long in omega arith) in
    λ i. record { key = whole i; put = put; is_in = is.side i } ∷ []

-- a mark that is packed behind others is behind them
pub one_more : (bytes lens puts key : List ℕ) (word put : ℕ) (is_in : Bool)
    → sum_by len_in lens ≡ length bytes → length lens ≡ length puts
    → IsWord word (length key) is_in
    → unpacked (bytes ++ key) (lens ++ word ∷ []) (puts ++ put ∷ [])
    ≡ unpacked bytes lens puts ++ record { key = key; put = put; is_in = is_in } ∷ []
one_more bytes [] [] key word put is_in whole timed is =
    subst (λ (bs : List ℕ). unpacked (bs ++ key) (word ∷ []) (put ∷ [])
    ≡ record { key = key; put = put; is_in = is_in } ∷ [])
    (sym (nil_from_length bytes (sym whole))) (first_mark key word put is_in is)
one_more bytes [] (p ∷ puts) key word put is_in whole timed is = absurd (omega (arith, timed))
one_more bytes (w ∷ lens) [] key word put is_in whole timed is = absurd (omega (arith, timed))
one_more bytes (w ∷ lens) (p ∷ puts) key word put is_in whole timed is =
    let len : ℕ = len_in w in
    let all : len + sum_by len_in lens ≡ length bytes = sym (sum_by-cons len_in w lens) ∙ whole in
    let within : len ≤ length bytes = omega (arith, all) in
    let left : sum_by len_in lens ≡ length (drop len bytes) =
    omega (arith, all, length-drop len bytes) in
    let own : take len (bytes ++ key) ≡ take len bytes = take-append-le len bytes key within in
    let others : drop len (bytes ++ key) ≡ drop len bytes ++ key =
    drop-append-le len bytes key within in
    rw (
      own,
      others,
      one_more (drop len bytes) lens puts key word put is_in left
          (omega (arith, timed)) is,
    ) refl

-- a mark behind others is the last
new_last : (marks : List Mark) (mark : Mark) → IsLast mark.key (marks ++ mark ∷ [])
new_last [] mark = refl
new_last (first ∷ []) mark = refl
new_last (first ∷ next ∷ marks) mark = new_last (next ∷ marks) mark

-- ---- the least moments

lesser_from : (least : Option ℕ) (put other : ℕ) → IsNotBefore least other
    → lesser least put ≤ other
lesser_from None put other h = absurd h
lesser_from (Some least) put other h = omega (arith, h)

lesser_own : (least : Option ℕ) (put : ℕ) → lesser least put ≤ put
lesser_own None put = omega arith
lesser_own (Some least) put = omega arith

from_more : (least : Least) (b : Bool) (put : ℕ) (side : Bool) (other : ℕ)
    → IsNotBefore (if side then least.of_set else least.of_left) other
    → IsNotBefore (if side then (least_with least b put).of_set
    else (least_with least b put).of_left) other
from_more least true put true other h = lesser_from least.of_set put other h
from_more least true put false other h = h
from_more least false put true other h = h
from_more least false put false other h = lesser_from least.of_left put other h

from_own : (least : Least) (side : Bool) (put : ℕ)
    → IsNotBefore (if side then (least_with least side put).of_set
    else (least_with least side put).of_left) put
from_own least true put = lesser_own least.of_set put
from_own least false put = lesser_own least.of_left put

-- with one mark more none is before the least
pub late_more : (least : Least) (mark : Mark) (marks : List Mark)
    → AllByRecursion (λ m. IsFrom least m) marks
    → AllByRecursion (λ m. IsFrom (least_with least mark.is_in mark.put) m) (marks ++ mark ∷ [])
late_more least mark [] h = (from_own least mark.is_in mark.put, tt)
late_more least mark (m ∷ marks) h =
    (from_more least mark.is_in mark.put m.is_in m.put h.0, late_more least mark marks h.1)

-- with one mark more it is a part
pub part_more : (bytes lens puts key : List ℕ) (word put : ℕ) (is_in : Bool) (least : Least)
    (last : ℕ) → IsWord word (length key) is_in → IsPart bytes lens puts least last
    → IsPart (bytes ++ key) (lens ++ word ∷ []) (puts ++ put ∷ []) (least_with least is_in put)
    (length bytes)
part_more bytes lens puts key word put is_in least last is part =
    let mark : Mark = record { key = key; put = put; is_in = is_in } in
    let marks : unpacked (bytes ++ key) (lens ++ word ∷ []) (puts ++ put ∷ [])
    ≡ unpacked bytes lens puts ++ mark ∷ [] =
    one_more bytes lens puts key word put is_in part.whole part.timed is in
    record {
      whole = omega (
        arith,
        sum_by_push len_in lens word,
        is.long,
        part.whole,
        length-append bytes key,
      );
      timed = omega (
        arith,
        part.timed,
        length-append lens (word ∷ []),
        length-append puts (put ∷ []),
      );
      late = subst (λ (ms : List Mark). AllByRecursion
          (λ m. IsFrom (least_with least is_in put) m) ms) (sym marks)
          (late_more least mark (unpacked bytes lens puts) part.late);
      ends = rw (drop-append_seam bytes key, marks) (new_last (unpacked bytes lens puts) mark);
    }

-- ---- the base of the moments

-- where there are no marks the base may be any
pub marks_rebased : (bytes lens puts : List ℕ) (base other : ℕ) (none : Bool)
    → (none ≡ true → length lens ≡ 0) → (none ≡ false → other ≡ base)
    → unpacked bytes lens (moments other puts) ≡ unpacked bytes lens (moments base puts)
marks_rebased bytes lens puts base other true nil same =
    ap (λ (ls : List ℕ). unpacked bytes ls (moments other puts)) (nil_from_length lens (nil refl))
    ∙ ap (λ (ls : List ℕ). unpacked bytes ls (moments base puts))
    (sym (nil_from_length lens (nil refl)))
marks_rebased bytes lens puts base other false nil same =
    ap (λ (n : ℕ). unpacked bytes lens (moments n puts)) (same refl)

pub part_rebased : (bytes lens puts : List ℕ) (base other : ℕ) (least : Least) (last : ℕ)
    (none : Bool) → (none ≡ true → length lens ≡ 0) → (none ≡ false → other ≡ base)
    → IsPart bytes lens (moments base puts) least last
    → IsPart bytes lens (moments other puts) least last
part_rebased bytes lens puts base other least last none nil same part =
    let marks : unpacked bytes lens (moments base puts) ≡ unpacked bytes lens (moments other puts) =
    sym (marks_rebased bytes lens puts base other none nil same) in
    record {
      whole = part.whole;
      timed = omega (
        arith,
        part.timed,
        length-map puts (moment base),
        length-map puts (moment other),
      );
      late = subst (λ (ms : List Mark). AllByRecursion (λ m. IsFrom least m) ms) marks part.late;
      ends = subst (λ (ms : List Mark). IsLast (drop last bytes) ms) marks part.ends;
    }

pub moments_more : (base after put : ℕ) (puts : List ℕ) → moment base after ≡ put
    → moments base (puts ++ after ∷ []) ≡ moments base puts ++ put ∷ []
moments_more base after put puts is =
    map-append (moment base) puts (after ∷ [])
    ∙ ap (λ (n : ℕ). moments base puts ++ n ∷ []) is

-- the moments so far and those that are left, with one moment more
pub moments_on : (base after : ℕ) (afters puts : List ℕ) (i : ℕ) → i < length puts
    → moment base after ≡ get_or puts i 0
    → moments base (afters ++ after ∷ []) ++ drop (i + 1) puts
    ≡ moments base afters ++ drop i puts
moments_on base after afters puts i lt is =
    let here : drop i puts ≡ get_or puts i 0 ∷ drop (i + 1) puts =
    drop_here puts i (get_or puts i 0) lt (get_or_default puts i 0 (get_or puts i 0) lt) in
    ap (λ (xs : List ℕ). xs ++ drop (i + 1) puts)
    (moments_more base after (get_or puts i 0) afters is)
    ∙ append_assoc (moments base afters) (get_or puts i 0 ∷ []) (drop (i + 1) puts)
    ∙ ap (λ (xs : List ℕ). moments base afters ++ xs) (sym here)

-- ---- other moments

unpacked_with : (bytes lens puts others : List ℕ) → length lens ≡ length puts
    → unpacked bytes lens others ≡ with_puts (unpacked bytes lens puts) others
unpacked_with bytes [] puts others timed = refl
unpacked_with bytes (word ∷ lens) [] others timed = absurd (omega (arith, timed))
unpacked_with bytes (word ∷ lens) (put ∷ puts) [] timed = refl
unpacked_with bytes (word ∷ lens) (put ∷ puts) (other ∷ others) timed =
    λ i. record { key = take (len_in word) bytes; put = other; is_in = nat_lt word LEFT }
    ∷ unpacked_with (drop (len_in word) bytes) lens puts others (omega (arith, timed)) i

pub length_unpacked : (bytes lens puts : List ℕ) → length lens ≡ length puts
    → length (unpacked bytes lens puts) ≡ length lens
length_unpacked bytes [] puts timed = refl
length_unpacked bytes (word ∷ lens) [] timed = absurd (omega (arith, timed))
length_unpacked bytes (word ∷ lens) (put ∷ puts) timed =
    omega (arith, length_unpacked (drop (len_in word) bytes) lens puts (omega (arith, timed)))

last_with : (key : List ℕ) (marks : List Mark) (puts : List ℕ) → length puts ≡ length marks
    → IsLast key marks → IsLast key (with_puts marks puts)
last_with key [] puts many h = tt
last_with key (mark ∷ []) [] many h = tt
last_with key (mark ∷ []) (put ∷ puts) many h = h
last_with key (mark ∷ next ∷ marks) [] many h = tt
last_with key (mark ∷ next ∷ marks) (put ∷ []) many h = absurd (omega (arith, many))
last_with key (mark ∷ next ∷ marks) (put ∷ other ∷ puts) many h =
    last_with key (next ∷ marks) (other ∷ puts) (omega (arith, many)) h

-- a part with other moments
pub part_renewed : (bytes lens puts others : List ℕ) (least other_least : Least) (last : ℕ)
    (marks : List Mark) → unpacked bytes lens puts ≡ marks → IsPart bytes lens puts least last
    → length others ≡ length marks
    → AllByRecursion (λ m. IsFrom other_least m) (with_puts marks others)
    → IsPart bytes lens others other_least last
    × (unpacked bytes lens others ≡ with_puts marks others)
part_renewed bytes lens puts others least other_least last marks is part many late =
    let same : unpacked bytes lens others ≡ with_puts marks others =
    unpacked_with bytes lens puts others part.timed
    ∙ ap (λ (ms : List Mark). with_puts ms others) is in
    let ends : IsLast (drop last bytes) marks =
    subst (λ (ms : List Mark). IsLast (drop last bytes) ms) is part.ends in (
      record {
        whole = part.whole;
        timed = omega (
          arith,
          many,
          part.timed,
          ap length is,
          length_unpacked bytes lens puts part.timed,
        );
        late = subst (λ (ms : List Mark). AllByRecursion (λ m. IsFrom other_least m) ms) (sym same)
            late;
        ends = subst (λ (ms : List Mark). IsLast (drop last bytes) ms) (sym same)
            (last_with (drop last bytes) marks others many ends);
      },
      same,
    )
