-- A list in segments: what its items are as one of the segments changes.
use Rattle.std.proofs.Common.{◌≡◌, ℕ, zero, suc, ◌+◌, ◌-◌, ◌*◌, ◌<◌, ◌≤◌, List, [], ◌∷◌, ◌++◌}
use Rattle.std.proofs.Common.{length, Some, None, refl, ap, sym, ◌∙◌, subst}
use Rattle.std.proofs.Common.{arith, slice_get}
use Rattle.std.proofs.Common.{true, false, inl, inr}
use Rattle.std.proofs.lemmas.Bool.{cases_lt}
use Rattle.std.proofs.lemmas.List.{append-nil, append_assoc, get_or_past}
use Rattle.std.proofs.lemmas.List.{set-append_left, set-append_right, set_past, get_or_default}
use Rattle.std.proofs.lemmas.List.{length_push, length-append, get_or_push}
use Rattle.std.proofs.lemmas.Option.{slice_get_past, slice_get_within, get_or_from_slice_get}
use Rattle.std.proofs.lemmas.Option.{none-some}
use Rattle.std.specs.Prelude.{slice_set, slice_index_or}
use Rattle.segments.proofs.Lists.{slice_get-append_left, slice_get-append_right}
use Rattle.segments.specs.Segments.{joined, AreFull, AreComplete, AreBlank, HasRoom}

pub slice_get-joined : {X : Type 0} (segments : List (List X)) (j i n : ℕ) → AreFull segments
    → i < 1024 → n ≡ 1024 * j + i
    → slice_get (joined segments) n ≡ slice_get (slice_index_or segments j []) i
slice_get-joined [] zero i n full within is = refl
slice_get-joined [] (suc j) i n full within is = refl
slice_get-joined (s ∷ []) zero i n full within is =
    let e : n ≡ i = omega arith in rw (append-nil, e) refl
slice_get-joined (s ∷ []) (suc j) i n full within is =
    rw (append-nil) (slice_get_past s n (omega arith))
slice_get-joined (s ∷ (t ∷ rest)) zero i n full within is =
    let e : n ≡ i = omega arith in
    rw e (slice_get-append_left s _ i (omega arith))
slice_get-joined (s ∷ (t ∷ rest)) (suc j) i n full within is =
    slice_get-append_right s (joined (t ∷ rest)) n (1024 * j + i) (omega arith)
    ∙ slice_get-joined (t ∷ rest) j i (1024 * j + i) full.1 within refl

pub joined-set : {X : Type 0} (segments : List (List X)) (j i n : ℕ) (x : X)
    → AreFull segments → i < 1024 → n ≡ 1024 * j + i → j < length segments
    → joined (slice_set segments j (slice_set (slice_index_or segments j []) i x))
    ≡ slice_set (joined segments) n x
joined-set [] j i n x full within is some = absurd (omega arith)
joined-set (s ∷ []) zero i n x full within is some =
    let e : n ≡ i = omega arith in
    append-nil (slice_set s i x)
    ∙ rw e (ap (λ (l : List _). slice_set l i x) (sym (append-nil s)))
joined-set (s ∷ []) (suc j) i n x full within is some = absurd (omega arith)
joined-set (s ∷ (t ∷ rest)) zero i n x full within is some =
    let e : n ≡ i = omega arith in
    rw e (sym (set-append_left s (joined (t ∷ rest)) i x (omega arith)))
joined-set (s ∷ (t ∷ rest)) (suc j) i n x full within is some =
    let e : n - length s ≡ 1024 * j + i = omega arith in
    let later : joined (slice_set (t ∷ rest) j
    (slice_set (slice_index_or (t ∷ rest) j []) i x))
    ≡ slice_set (joined (t ∷ rest)) (n - length s) x =
    joined-set (t ∷ rest) j i (n - length s) x full.1 within e (omega arith) in
    ap (λ (l : List _). s ++ l) later
    ∙ sym (set-append_right s (joined (t ∷ rest)) (length s) n x refl (omega arith))

pub AreFull-set : {X : Type 0} (segments : List (List X)) (j : ℕ) (s : List X)
    → AreFull segments → length s ≡ length (slice_index_or segments j [])
    → AreFull (slice_set segments j s)
AreFull-set [] j s full same = tt
AreFull-set (t ∷ []) zero s full same = omega arith
AreFull-set (t ∷ []) (suc j) s full same = full
AreFull-set (t ∷ (u ∷ rest)) zero s full same = (omega arith, full.1)
AreFull-set (t ∷ (u ∷ rest)) (suc zero) s full same =
    (full.0, AreFull-set (u ∷ rest) zero s full.1 same)
AreFull-set (t ∷ (u ∷ rest)) (suc (suc j)) s full same =
    (full.0, AreFull-set (u ∷ rest) (suc j) s full.1 same)

pub joined-set_last : {X : Type 0} (segments : List (List X)) (j : ℕ) (s more : List X)
    → suc j ≡ length segments → s ≡ slice_index_or segments j [] ++ more
    → joined (slice_set segments j s) ≡ joined segments ++ more
joined-set_last [] j s more last is = absurd (omega arith)
joined-set_last (t ∷ []) zero s more last is =
    append-nil s ∙ is ∙ ap (λ (l : List _). l ++ more) (sym (append-nil t))
joined-set_last (t ∷ []) (suc j) s more last is = absurd (omega arith)
joined-set_last (t ∷ (u ∷ rest)) zero s more last is = absurd (omega arith)
joined-set_last (t ∷ (u ∷ rest)) (suc j) s more last is =
    ap (λ (l : List _). t ++ l) (joined-set_last (u ∷ rest) j s more (omega arith) is)
    ∙ sym (append_assoc t (joined (u ∷ rest)) more)

pub AreFull-set_last : {X : Type 0} (segments : List (List X)) (j : ℕ) (s : List X)
    → AreFull segments → suc j ≡ length segments → length s ≤ 1024
    → AreFull (slice_set segments j s)
AreFull-set_last [] j s full last short = tt
AreFull-set_last (t ∷ []) zero s full last short = short
AreFull-set_last (t ∷ []) (suc j) s full last short = full
AreFull-set_last (t ∷ (u ∷ rest)) zero s full last short = absurd (omega arith)
AreFull-set_last (t ∷ (u ∷ rest)) (suc zero) s full last short =
    (full.0, AreFull-set_last (u ∷ rest) zero s full.1 (omega arith) short)
AreFull-set_last (t ∷ (u ∷ rest)) (suc (suc j)) s full last short =
    (full.0, AreFull-set_last (u ∷ rest) (suc j) s full.1 (omega arith) short)

pub joined-push : {X : Type 0} (segments : List (List X)) (s : List X)
    → joined (segments ++ s ∷ []) ≡ joined segments ++ s
joined-push [] s = append-nil s
joined-push (t ∷ rest) s =
    ap (λ (l : List _). t ++ l) (joined-push rest s) ∙ sym (append_assoc t (joined rest) s)

pub AreFull-push : {X : Type 0} (segments : List (List X)) (s : List X) → AreComplete segments
    → length s ≤ 1024 → AreFull (segments ++ s ∷ [])
AreFull-push [] s complete short = short
AreFull-push (t ∷ []) s complete short = (complete.0, short)
AreFull-push (t ∷ (u ∷ rest)) s complete short =
    (complete.0, AreFull-push (u ∷ rest) s complete.1 short)

-- segments whose last is full are all complete
pub complete_from_last : {X : Type 0} (segments : List (List X)) (j : ℕ) → AreFull segments
    → suc j ≡ length segments → 1024 ≤ length (slice_index_or segments j [])
    → AreComplete segments
complete_from_last [] j full is last = tt
complete_from_last (s ∷ []) zero full is last = (omega arith, tt)
complete_from_last (s ∷ []) (suc j) full is last = absurd (omega arith)
complete_from_last (s ∷ (t ∷ rest)) zero full is last = absurd (omega arith)
complete_from_last (s ∷ (t ∷ rest)) (suc j) full is last =
    (full.0, complete_from_last (t ∷ rest) j full.1 (omega arith) last)

pub slice_get-seen : {X : Type 0} (segments : List (List X)) (s : List X) (j i n : ℕ)
    → AreFull segments → i < 1024 → n ≡ 1024 * j + i → slice_get segments j ≡ Some s
    → slice_get (joined segments) n ≡ slice_get s i
slice_get-seen segments s j i n full within is some =
    slice_get-joined segments j i n full within is
    ∙ ap (λ (l : List _). slice_get l i) (get_or_from_slice_get segments j s [] some)

pub past_from_none : {X : Type 0} (xs : List X) (j : ℕ) → slice_get xs j ≡ None → length xs ≤ j
past_from_none [] j none = omega arith
past_from_none (x ∷ xs) zero none = absurd (none-some x (sym none))
past_from_none (x ∷ xs) (suc j) none =
    let later : length xs ≤ j = past_from_none xs j none in omega arith

pub slice_get-unseen : {X : Type 0} (segments : List (List X)) (j i n : ℕ) → AreFull segments
    → i < 1024 → n ≡ 1024 * j + i → length segments ≤ j → slice_get (joined segments) n ≡ None
slice_get-unseen segments j i n full within is past =
    slice_get-joined segments j i n full within is
    ∙ ap (λ (l : List _). slice_get l i) (get_or_past segments j [] past)

pub slice_get-none : {X : Type 0} (segments : List (List X)) (j i n : ℕ) → AreFull segments
    → i < 1024 → n ≡ 1024 * j + i → slice_get segments j ≡ None
    → slice_get (joined segments) n ≡ None
slice_get-none segments j i n full within is none =
    slice_get-unseen segments j i n full within is (past_from_none segments j none)

-- nothing is written past the end
pub set-unseen : {X : Type 0} (segments : List (List X)) (j i n : ℕ) (x : X) → AreFull segments
    → i < 1024 → n ≡ 1024 * j + i → length segments ≤ j
    → joined segments ≡ slice_set (joined segments) n x
set-unseen segments j i n x full within is past =
    sym (set_past (joined segments) n x
    (past_from_none (joined segments) n (slice_get-unseen segments j i n full within is past)))

pub slice_get-read : {X : Type 0} (segments : List (List X)) (s : List X) (j i n : ℕ)
    → AreFull segments → i < 1024 → n ≡ 1024 * j + i → j < length segments
    → s ≡ slice_index_or segments j s → slice_get (joined segments) n ≡ slice_get s i
slice_get-read segments s j i n full within is some read =
    slice_get-joined segments j i n full within is
    ∙ ap (λ (l : List _). slice_get l i)
    (get_or_default segments j [] s some ∙ sym read)

pub joined-written : {X : Type 0} (segments : List (List X)) (s : List X) (j i n : ℕ) (x : X)
    → AreFull segments → i < 1024 → n ≡ 1024 * j + i → j < length segments
    → s ≡ slice_index_or segments j s
    → joined (slice_set segments j (slice_set s i x)) ≡ slice_set (joined segments) n x
joined-written segments s j i n x full within is some read =
    let e : s ≡ slice_index_or segments j [] = read ∙ get_or_default segments j s [] some in
    ap (λ (l : List _). joined (slice_set segments j (slice_set l i x))) e
    ∙ joined-set segments j i n x full within is some

pub AreFull-written : {X : Type 0} (segments : List (List X)) (s t : List X) (j : ℕ)
    → AreFull segments → j < length segments → s ≡ slice_index_or segments j s
    → length t ≡ length s → AreFull (slice_set segments j t)
AreFull-written segments s t j full some read same =
    AreFull-set segments j t full
    (same ∙ ap (λ (l : List _). length l) (read ∙ get_or_default segments j s [] some))

pub complete_seen : {X : Type 0} (segments : List (List X)) (s : List X) (j : ℕ)
    → AreFull segments → j ≡ length segments - 1 → slice_get segments j ≡ Some s
    → 1024 ≤ length s → AreComplete segments
complete_seen segments s j full last is long =
    let within : j < length segments = slice_get_within segments j s is in
    complete_from_last segments j full (omega arith)
    (rw (get_or_from_slice_get segments j s [] is) long)

pub joined-pushed : {X : Type 0} (segments : List (List X)) (s t more : List X) (j : ℕ)
    → suc j ≡ length segments → s ≡ slice_index_or segments j s → t ≡ s ++ more
    → joined (slice_set segments j t) ≡ joined segments ++ more
joined-pushed segments s t more j last read is =
    joined-set_last segments j t more last
    (is ∙ ap (λ (l : List _). l ++ more) (read ∙ get_or_default segments j s [] (omega arith)))

-- the length of a segment that is read
pub length-read : {X : Type 0} (segments : List (List X)) (s : List X) (j : ℕ)
    → suc j ≡ length segments → s ≡ slice_index_or segments j s
    → length (slice_index_or segments j []) < 1024 → length s < 1024
length-read segments s j last read short =
    let e : s ≡ slice_index_or segments j [] =
    read ∙ get_or_default segments j s [] (omega arith) in
    let f : length s ≡ length (slice_index_or segments j []) = ap (λ (l : List _). length l) e in
    omega arith

pub not_within : (a b : ℕ) → (a < b → false ≡ true) → b ≤ a
not_within a b refused =
    elim (cases_lt a b) [
      | inl within ↦ let e : false ≡ true = refused within in absurd (cc)
      | inr past ↦ past
    ]

pub joined-push_blank : {X : Type 0} (segments : List (List X)) (s : List X) → s ≡ []
    → joined (segments ++ s ∷ []) ≡ joined segments
joined-push_blank segments s none =
    joined-push segments s ∙ ap (λ (l : List _). joined segments ++ l) none
    ∙ append-nil (joined segments)

-- the last segment has an item more
pub joined_more : {X : Type 0} (segments : List (List X)) (s t : List X) (x : X) (j : ℕ)
    → HasRoom segments → j ≡ length segments - 1 → s ≡ slice_index_or segments j s
    → t ≡ s ++ x ∷ [] → joined (slice_set segments j t) ≡ joined segments ++ x ∷ []
joined_more segments s t x j room last read is =
    let some : 0 < length segments = room.some in
    joined-pushed segments s t (x ∷ []) j (omega arith) read is

pub AreFull_more : {X : Type 0} (segments : List (List X)) (s t : List X) (x : X) (j : ℕ)
    → AreFull segments → HasRoom segments → j ≡ length segments - 1
    → s ≡ slice_index_or segments j s → t ≡ s ++ x ∷ [] → AreFull (slice_set segments j t)
AreFull_more segments s t x j full room last read is =
    let some : 0 < length segments = room.some in
    let at_last : length (slice_index_or segments j []) < 1024 =
    subst (λ n. length (slice_index_or segments n []) < 1024) (sym last) room.short in
    let short : length s < 1024 = length-read segments s j (omega arith) read at_last in
    let e : length t ≡ length (s ++ x ∷ []) = ap (λ (l : List _). length l) is in
    AreFull-set_last segments j t full (omega arith) (omega (arith, length_push s x))

-- how many items there are, by the number of segments and what the last one has
length-joined : {X : Type 0} (segments : List (List X)) (j : ℕ) → AreFull segments
    → suc j ≡ length segments
    → length (joined segments) ≡ 1024 * j + length (slice_index_or segments j [])
length-joined [] j full is = absurd (omega arith)
length-joined (s ∷ []) zero full is =
    let e : length (s ++ []) ≡ length s = ap (λ (l : List _). length l) (append-nil s) in
    omega arith
length-joined (s ∷ []) (suc j) full is = absurd (omega arith)
length-joined (s ∷ (t ∷ rest)) zero full is = absurd (omega arith)
length-joined (s ∷ (t ∷ rest)) (suc j) full is =
    let later = length-joined (t ∷ rest) j full.1 (omega arith) in
    omega (arith, length-append s (joined (t ∷ rest)))

pub length-joined_complete : {X : Type 0} (segments : List (List X)) → AreComplete segments
    → length (joined segments) ≡ 1024 * length segments
length-joined_complete [] complete = refl
length-joined_complete (s ∷ rest) complete =
    let later = length-joined_complete rest complete.1 in
    omega (arith, length-append s (joined rest))

last_short : {X : Type 0} (segments : List (List X)) (j : ℕ) → AreFull segments
    → suc j ≡ length segments → length (slice_index_or segments j []) ≤ 1024
last_short [] j full is = absurd (omega arith)
last_short (s ∷ []) zero full is = full
last_short (s ∷ []) (suc j) full is = absurd (omega arith)
last_short (s ∷ (t ∷ rest)) zero full is = absurd (omega arith)
last_short (s ∷ (t ∷ rest)) (suc j) full is = last_short (t ∷ rest) j full.1 (omega arith)

-- the room in the last segment is what all of them lack
pub free_seen : {X : Type 0} (segments : List (List X)) (s : List X) (j n : ℕ)
    → AreFull segments → j ≡ length segments - 1 → slice_get segments j ≡ Some s
    → n ≡ 1024 - length s → length (joined segments) + n ≡ 1024 * length segments
free_seen segments s j n full last is free =
    let within : j < length segments = slice_get_within segments j s is in
    let all = length-joined segments j full (omega arith) in
    let short = last_short segments j full (omega arith) in
    let e : length (slice_index_or segments j []) ≡ length s =
    ap (λ (l : List _). length l) (get_or_from_slice_get segments j s [] is) in
    omega arith

pub free_unseen : {X : Type 0} (segments : List (List X)) → length segments ≡ 0
    → length (joined segments) + 0 ≡ 1024 * length segments
free_unseen [] none = refl
free_unseen (s ∷ rest) none = absurd (omega arith)

pub AreBlank-push : {X : Type 0} (segments : List (List X)) (s : List X) → AreBlank segments
    → s ≡ [] → AreBlank (segments ++ s ∷ [])
AreBlank-push [] s blank none = (none, tt)
AreBlank-push (t ∷ rest) s blank none = (blank.0, AreBlank-push rest s blank.1 none)

blank_front : {X : Type 0} (segments : List (List X)) (s : List X)
    → AreBlank (segments ++ s ∷ []) → AreBlank segments × (s ≡ [])
blank_front [] s blank = (tt, blank.0)
blank_front (t ∷ rest) s blank =
    let later = blank_front rest s blank.1 in ((blank.0, later.0), later.1)

pub AreBlank-popped : {X : Type 0} (segments all : List (List X)) (s : List X)
    → all ≡ segments ++ s ∷ [] → AreBlank all → AreBlank segments × (s ≡ [])
AreBlank-popped segments all s is blank =
    blank_front segments s (subst (λ l. AreBlank l) is blank)

pub HasRoom-push_blank : {X : Type 0} (segments : List (List X)) (s : List X) → s ≡ []
    → HasRoom (segments ++ s ∷ [])
HasRoom-push_blank segments s none =
    let long = length_push segments s in
    let last : length (segments ++ s ∷ []) - 1 ≡ length segments = omega arith in
    let e : slice_index_or (segments ++ s ∷ []) (length (segments ++ s ∷ []) - 1) [] ≡ s =
    ap (λ n. slice_index_or (segments ++ s ∷ []) n []) last
    ∙ get_or_push segments s [] (length segments) refl in
    let f : length (slice_index_or (segments ++ s ∷ []) (length (segments ++ s ∷ []) - 1) []) ≡ 0 =
    ap (λ (l : List _). length l) (e ∙ none) in
    record {
      some = omega arith;
      short = omega arith;
    }
