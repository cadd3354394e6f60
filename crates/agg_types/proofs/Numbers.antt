-- Keys of at most 16 bytes are in the order of the numbers that they spell with zeros behind them,
-- and then of their lengths.
use Rattle.std.proofs.Common.{◌≡◌, ℕ, zero, suc, ◌+◌, ◌*◌, ◌<◌, ◌≤◌, List, [], ◌∷◌, length, get_or}
use Rattle.std.proofs.Common.{take, drop, refl, sym, ap, ap₂, ◌∙◌, arith, subst}
use Rattle.std.specs.Prelude.{replicate, nat_eq, Bool, ◌&&◌}
use Rattle.std.proofs.lemmas.List.{length-take-le}
use Rattle.std.specs.Int.{w128, from_be_bytes}
use Rattle.std.specs.declared.cmp.Ordering.{Ordering}
use Rattle.std.specs.declared.cmp.Ordering.TheVariants.{Less, Equal, Greater}
use Rattle.std.specs.Ordering.{nat_cmp, ordering_then, MatchOrdering, is_eq}
use Rattle.std.proofs.lemmas.Bool.Decides.{nat_tests}
use Rattle.std.specs.Cmp.{ranks, nat_cmp_is, tied_then}
use Rattle.std.specs.Cmp.Lexicographic.{slice_cmp}

-- each is below 256
abbrev pub Bytes : List ℕ → Type 0
Bytes xs = (k : ℕ) → get_or xs k 0 < 256

-- the number that these bytes spell behind n, the greatest first
abbrev spelt : ℕ → List ℕ → ℕ
spelt n [] = n
spelt n (b ∷ bs) = spelt (n * 256 + b) bs

-- bytes and then zeros, in k places
abbrev padded : ℕ → List ℕ → List ℕ
padded zero xs = []
padded (suc k) [] = 0 ∷ padded k []
padded (suc k) (x ∷ xs) = x ∷ padded k xs

-- ---- bytes as numbers
rises : (xs ys : List ℕ) (a b : ℕ) → length xs ≡ length ys → Bytes xs → a < b
    → spelt a xs < spelt b ys
rises [] [] a b e h l = l
rises [] (y ∷ ys) a b e h l = absurd (omega arith)
rises (x ∷ xs) [] a b e h l = absurd (omega arith)
rises (x ∷ xs) (y ∷ ys) a b e h l =
    let small : x < 256 = h 0 in
    rises xs ys (a * 256 + x) (b * 256 + y) (omega arith) (λ k. h (suc k)) (omega arith)

ranked_by_number : (xs ys : List ℕ) (a : ℕ) → length xs ≡ length ys → Bytes xs → Bytes ys
    → slice_cmp nat_cmp xs ys ≡ nat_cmp (spelt a xs) (spelt a ys)
ranked_by_number [] [] a e g h = nat_cmp_is a a Equal refl
ranked_by_number [] (y ∷ ys) a e g h = absurd (omega arith)
ranked_by_number (x ∷ xs) [] a e g h = absurd (omega arith)
ranked_by_number (x ∷ xs) (y ∷ ys) a e g h =
    by (ranked_by_number xs ys (a * 256 + x) (omega arith) (λ k. g (suc k)) (λ k. h (suc k)))
    (nat_cmp x y) (ranks x y)
  where
    same : length xs ≡ length ys
    same = omega arith

    by : slice_cmp nat_cmp xs ys ≡ nat_cmp (spelt (a * 256 + x) xs) (spelt (a * 256 + x) ys)
        → (o : Ordering) → MatchOrdering o (x < y) (x ≡ y) (y < x)
        → ordering_then o (slice_cmp nat_cmp xs ys) ≡ nat_cmp (spelt (a * 256 + x) xs)
        (spelt (a * 256 + y) ys)
    by rest Less l = nat_cmp_is _ _ Less (let below : x < y = l in
        rises xs ys (a * 256 + x) (a * 256 + y) same (λ k. g (suc k)) (omega arith))
    by rest Equal l =
        let level : x ≡ y = l in
        rest ∙ ap (λ z. nat_cmp (spelt (a * 256 + x) xs) (spelt (a * 256 + z) ys)) level
    by rest Greater l = nat_cmp_is _ _ Greater (let above : y < x = l in
        rises ys xs (a * 256 + y) (a * 256 + x) (sym same) (λ k. h (suc k)) (omega arith))

-- n bytes from k on, as they are read
abbrev reads : List ℕ → ℕ → ℕ → List ℕ
reads xs k zero = []
reads xs k (suc n) = get_or xs k 0 ∷ reads xs (suc k) n

reads-next : (x : ℕ) (xs : List ℕ) (k n : ℕ) → reads (x ∷ xs) (suc k) n ≡ reads xs k n
reads-next x xs k zero = refl
reads-next x xs k (suc n) = ap (λ l. get_or xs k 0 ∷ l) (reads-next x xs (suc k) n)

read_out : (n : ℕ) (xs : List ℕ) → length xs ≡ n → xs ≡ reads xs 0 n
read_out zero [] e = refl
read_out zero (x ∷ xs) e = absurd (omega arith)
read_out (suc n) [] e = absurd (omega arith)
read_out (suc n) (x ∷ xs) e = ap (λ l. x ∷ l) (read_out n xs (omega arith)
    ∙ sym (reads-next x xs 0 n))

number_is : (xs : List ℕ) → length xs ≡ 16 → from_be_bytes w128 xs ≡ spelt 0 xs
number_is xs e =
    let sums : from_be_bytes w128 xs ≡ spelt 0 (reads xs 0 16) = omega arith in
    sums ∙ ap (spelt 0) (sym (read_out 16 xs e))

-- ---- bytes with zeros behind them
is_padded : (k l : ℕ) (bs : List ℕ) → length bs ≡ k → l ≤ k → drop l bs ≡ drop l (replicate k 0)
    → bs ≡ padded k (take l bs)
is_padded zero l [] e le h = refl
is_padded zero l (b ∷ bs) e le h = absurd (omega arith)
is_padded (suc k) l [] e le h = absurd (omega arith)
is_padded (suc k) zero (b ∷ bs) e le h = h ∙ sym (zeros (suc k))
  where
    zeros : (n : ℕ) → padded n [] ≡ replicate n 0
    zeros zero = refl
    zeros (suc n) = ap (λ l. 0 ∷ l) (zeros n)
is_padded (suc k) (suc l) (b ∷ bs) e le h =
    ap (λ l. b ∷ l) (is_padded k l bs (omega arith) (omega arith) h)

none-not_above : (k : ℕ) (ys : List ℕ)
    → ordering_then (slice_cmp nat_cmp (padded k []) (padded k ys)) Less ≡ Less
none-not_above zero ys = refl
none-not_above (suc k) [] = none-not_above k []
none-not_above (suc k) (y ∷ ys) = by (none-not_above k ys) (nat_cmp 0 y) (ranks 0 y)
  where
    by : ordering_then (slice_cmp nat_cmp (padded k []) (padded k ys)) Less ≡ Less
        → (o : Ordering) → MatchOrdering o (0 < y) (0 ≡ y) (y < 0)
        → ordering_then (ordering_then o (slice_cmp nat_cmp (padded k []) (padded k ys))) Less
        ≡ Less
    by rest Less l = refl
    by rest Equal l = rest
    by rest Greater l = let below : y < 0 = l in absurd (omega arith)

none-not_below : (k : ℕ) (xs : List ℕ)
    → ordering_then (slice_cmp nat_cmp (padded k xs) (padded k [])) Greater ≡ Greater
none-not_below zero xs = refl
none-not_below (suc k) [] = none-not_below k []
none-not_below (suc k) (x ∷ xs) = by (none-not_below k xs) (nat_cmp x 0) (ranks x 0)
  where
    by : ordering_then (slice_cmp nat_cmp (padded k xs) (padded k [])) Greater ≡ Greater
        → (o : Ordering) → MatchOrdering o (x < 0) (x ≡ 0) (0 < x)
        → ordering_then (ordering_then o (slice_cmp nat_cmp (padded k xs) (padded k [])))
        Greater ≡ Greater
    by rest Less l = let below : x < 0 = l in absurd (omega arith)
    by rest Equal l = rest
    by rest Greater l = refl

one_more : (m n : ℕ) → nat_cmp (suc m) (suc n) ≡ nat_cmp m n
one_more m n = sym (nat_cmp_is (suc m) (suc n) (nat_cmp m n) (by (nat_cmp m n) (ranks m n)))
  where
    by : (o : Ordering) → MatchOrdering o (m < n) (m ≡ n) (n < m)
        → MatchOrdering o (suc m < suc n) (suc m ≡ suc n) (suc n < suc m)
    by Less l = let below : m < n = l in omega arith
    by Equal l = let level : m ≡ n = l in omega arith
    by Greater l = let above : n < m = l in omega arith

lengths_decide : (k : ℕ) (xs ys : List ℕ) → length xs ≤ k → length ys ≤ k
    → ordering_then (slice_cmp nat_cmp (padded k xs) (padded k ys))
    (nat_cmp (length xs) (length ys)) ≡ slice_cmp nat_cmp xs ys
lengths_decide zero [] [] p q = refl
lengths_decide zero [] (y ∷ ys) p q = absurd (omega arith)
lengths_decide zero (x ∷ xs) ys p q = absurd (omega arith)
lengths_decide (suc k) [] [] p q = lengths_decide k [] [] (omega arith) (omega arith)
lengths_decide (suc k) [] (y ∷ ys) p q =
    ap (λ o. ordering_then (slice_cmp nat_cmp (padded (suc k) []) (padded (suc k) (y ∷ ys))) o)
    (sym (nat_cmp_is 0 (suc (length ys)) Less (omega arith)))
    ∙ none-not_above (suc k) (y ∷ ys)
lengths_decide (suc k) (x ∷ xs) [] p q =
    ap (λ o. ordering_then (slice_cmp nat_cmp (padded (suc k) (x ∷ xs)) (padded (suc k) [])) o)
    (sym (nat_cmp_is (suc (length xs)) 0 Greater (omega arith)))
    ∙ none-not_below (suc k) (x ∷ xs)
lengths_decide (suc k) (x ∷ xs) (y ∷ ys) p q =
    by (ap (λ o. ordering_then (slice_cmp nat_cmp (padded k xs) (padded k ys)) o)
    (one_more (length xs) (length ys)) ∙ lengths_decide k xs ys (omega arith) (omega arith))
    (nat_cmp x y)
  where
    by : ordering_then (slice_cmp nat_cmp (padded k xs) (padded k ys))
        (nat_cmp (suc (length xs)) (suc (length ys))) ≡ slice_cmp nat_cmp xs ys
        → (o : Ordering) → ordering_then
        (ordering_then o (slice_cmp nat_cmp (padded k xs) (padded k ys)))
        (nat_cmp (suc (length xs)) (suc (length ys)))
        ≡ ordering_then o (slice_cmp nat_cmp xs ys)
    by rest Less = refl
    by rest Equal = rest
    by rest Greater = refl

-- ---- keys
pub ranked_as_numbers : (xs ys : List ℕ) → length xs ≡ 16 → length ys ≡ 16 → Bytes xs → Bytes ys
    → nat_cmp (from_be_bytes w128 xs) (from_be_bytes w128 ys) ≡ slice_cmp nat_cmp xs ys
ranked_as_numbers xs ys p q g h = ap₂ nat_cmp (number_is xs p) (number_is ys q)
    ∙ sym (ranked_by_number xs ys 0 (p ∙ sym q) g h)

-- the first l of 16 bytes are the key, and zeros follow
abbrev pub IsKey : ℕ → List ℕ → Type 0
IsKey l bs = (length bs ≡ 16) × (l ≤ 16) × (drop l bs ≡ drop l (replicate 16 0))

exact : (l : ℕ) (bs : List ℕ) → IsKey l bs → length (take l bs) ≡ l
exact l bs p = length-take-le l bs (subst (λ n. l ≤ n) (sym p.0) p.1)

short : (l : ℕ) (bs : List ℕ) → IsKey l bs → length (take l bs) ≤ 16
short l bs p = subst (λ n. n ≤ 16) (sym (exact l bs p)) p.1

pub ranked_as_keys : (l : ℕ) (xs : List ℕ) → IsKey l xs → (m : ℕ) (ys : List ℕ) → IsKey m ys
    → ordering_then (slice_cmp nat_cmp xs ys) (nat_cmp l m)
    ≡ slice_cmp nat_cmp (take l xs) (take m ys)
ranked_as_keys l xs p m ys q = ap₂ ordering_then by_padded by_length
    ∙ lengths_decide 16 (take l xs) (take m ys) (short l xs p) (short m ys q)
  where
    by_padded : slice_cmp nat_cmp xs ys ≡ slice_cmp nat_cmp (padded 16 (take l xs))
        (padded 16 (take m ys))
    by_padded = ap₂ (slice_cmp nat_cmp) (is_padded 16 l xs p.0 p.1 p.2)
        (is_padded 16 m ys q.0 q.1 q.2)

    by_length : nat_cmp l m ≡ nat_cmp (length (take l xs)) (length (take m ys))
    by_length = ap₂ nat_cmp (sym (exact l xs p)) (sym (exact m ys q))

pub tied_numbers : (m n : ℕ) → is_eq (nat_cmp m n) ≡ nat_eq m n
tied_numbers m n = grind (arith, nat_tests)

-- b says whether the 16 bytes are the same
pub tied_as_keys : (l : ℕ) (xs : List ℕ) → IsKey l xs → (m : ℕ) (ys : List ℕ) → IsKey m ys
    → (b : Bool) → b ≡ is_eq (slice_cmp nat_cmp xs ys)
    → (b && nat_eq l m) ≡ is_eq (slice_cmp nat_cmp (take l xs) (take m ys))
tied_as_keys l xs p m ys q b e =
    ap₂ (λ a c. a && c) e (sym (tied_numbers l m))
    ∙ tied_then (slice_cmp nat_cmp xs ys) (nat_cmp l m)
    ∙ ap is_eq (ranked_as_keys l xs p m ys q)
