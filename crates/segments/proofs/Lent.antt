-- What a list in segments is once a borrow of one of its items ends.
use Rattle.std.proofs.Common.{◌≡◌, ℕ, zero, suc, ◌+◌, ◌*◌, ◌<◌, List, [], ◌∷◌, ◌++◌, length}
use Rattle.std.proofs.Common.{refl, ap, sym, ◌∙◌, subst, arith}
use Rattle.std.proofs.lemmas.List.{append-nil, length-append, length-set}
use Rattle.std.specs.Prelude.{slice_set, slice_index_or}
use Rattle.segments.proofs.Joined.{joined-written, AreFull-written}
use Rattle.segments.specs.Lending.{with_item}
use Rattle.segments.specs.Segments.{Roomy, joined, AreFull, AreRoomy}

-- items, and for how many further ones there is memory
abbrev pub roomy : {X : Type 0} → List X → ℕ → Roomy X
roomy items room = record { items = items; room = room }

-- an item of the whole is one of its segment
within_segment : {X : Type 0} (segments : List (List X)) (j i n : ℕ) → AreFull segments
    → i < 1024 → n ≡ 1024 * j + i → n < length (joined segments)
    → (j < length segments) × (i < length (slice_index_or segments j []))
within_segment [] j i n full within is some = absurd (omega arith)
within_segment (s ∷ []) zero i n full within is some =
    let e : length (s ++ []) ≡ length s = ap (λ (l : List _). length l) (append-nil s) in
    (omega arith, omega arith)
within_segment (s ∷ []) (suc j) i n full within is some =
    let e : length (s ++ []) ≡ length s = ap (λ (l : List _). length l) (append-nil s) in
    absurd (omega arith)
within_segment (s ∷ (t ∷ rest)) zero i n full within is some = (omega arith, omega arith)
within_segment (s ∷ (t ∷ rest)) (suc j) i n full within is some =
    let e : length (s ++ joined (t ∷ rest)) ≡ length s + length (joined (t ∷ rest)) =
    length-append s (joined (t ∷ rest)) in
    let later = within_segment (t ∷ rest) j i (1024 * j + i) full.1 within refl (omega arith) in
    (omega (arith, later.0), later.1)

pub lent_within : {X : Type 0} (segments : List (List X)) (room j i n : ℕ) (now : Roomy X)
    → AreFull segments → i < 1024 → n ≡ 1024 * j + i → roomy (joined segments) room ≡ now
    → n < length now.items → (j < length segments) × (i < length (slice_index_or segments j []))
lent_within {X} segments room j i n now full within is was some =
    within_segment segments j i n full within is
    (subst (λ (r : Roomy X). n < length r.items) (sym was) some)

pub lent_view : {X : Type 0} (segments : List (List X)) (s : List X) (room j i n : ℕ) (x : X)
    (now : Roomy X) → AreFull segments → i < 1024 → n ≡ 1024 * j + i → j < length segments
    → s ≡ slice_index_or segments j s → roomy (joined segments) room ≡ now
    → roomy (joined (slice_set segments j (slice_set s i x))) room ≡ with_item now n x
lent_view {X} segments s room j i n x now full within is some read was =
    ap (λ (l : List X). roomy l room) (joined-written segments s j i n x full within is some read)
    ∙ ap (λ (r : Roomy X). with_item r n x) was

pub lent_roomy : {X : Type 0} (segments blank : List (List X)) (s : List X)
    (most len room j i n : ℕ) (x : X) → AreRoomy segments blank most len room → i < 1024
    → n ≡ 1024 * j + i → j < length segments → s ≡ slice_index_or segments j s
    → AreRoomy (slice_set segments j (slice_set s i x)) blank most len room
lent_roomy {X} segments blank s most len room j i n x was within is some read =
    let size : length (slice_set segments j (slice_set s i x)) ≡ length segments =
    length-set segments j (slice_set s i x) in
    let items : length (joined (slice_set segments j (slice_set s i x)))
    ≡ length (joined segments) =
    ap (λ (l : List X). length l)
    (joined-written segments s j i n x was.listed.full within is some read)
    ∙ length-set (joined segments) n x in
    let most_in = was.listed.within in
    let roomy_in = was.roomy in
    record {
      listed = record {
        full = AreFull-written segments s (slice_set s i x) j was.listed.full some read
            (length-set s i x);
        blanks = was.listed.blanks;
        within = omega (arith, size, most_in);
      };
      counted = was.counted ∙ sym items;
      roomy = omega (arith, size, roomy_in);
      small = was.small;
    }
