-- Keys whose first bytes differ as numbers are ordered by them.
use Rattle.std.proofs.Common.{◌≡◌, ℕ, zero, suc, ◌+◌, ◌*◌, ◌<◌, List, [], ◌∷◌, refl, sym}
use Rattle.std.proofs.Common.{ap, ◌∙◌, arith, subst, subst₂}
use Rattle.std.specs.Prelude.{slice_index_or}
use Rattle.std.specs.Cmp.{ranks}
use Rattle.std.specs.Cmp.Lexicographic.{slice_cmp, nat_list_cmp_total}
use Rattle.std.specs.Ordering.{nat_cmp, ordering_reverse, ordering_then, MatchOrdering}
use Rattle.std.specs.declared.cmp.Ordering.{Ordering}
use Rattle.std.specs.declared.cmp.Ordering.TheVariants.{Less, Equal, Greater}
use Rattle.book_rows.specs.Heads.{bytes_from, head_of}

-- each is below 256
abbrev Bytes : List ℕ → Type 0
Bytes xs = (at : ℕ) → slice_index_or xs at 0 < 256

-- the number that the first k bytes spell behind n, with zeros behind the last
abbrev spelt : ℕ → ℕ → List ℕ → ℕ
spelt zero n bs = n
spelt (suc k) n [] = spelt k (n * 256) []
spelt (suc k) n (b ∷ bs) = spelt k (n * 256 + b) bs

rises : (k a b : ℕ) (xs ys : List ℕ) → Bytes xs → a < b → spelt k a xs < spelt k b ys
rises zero a b xs ys small l = l
rises (suc k) a b [] [] small l = rises k (a * 256) (b * 256) [] [] small (omega (arith, l))
rises (suc k) a b [] (y ∷ ys) small l =
    rises k (a * 256) (b * 256 + y) [] ys small (omega (arith, l))
rises (suc k) a b (x ∷ xs) [] small l =
    rises k (a * 256 + x) (b * 256) xs [] (λ at. small (suc at)) (omega (arith, l, small 0))
rises (suc k) a b (x ∷ xs) (y ∷ ys) small l =
    rises k (a * 256 + x) (b * 256 + y) xs ys (λ at. small (suc at)) (omega (arith, l, small 0))

not_below_none : (xs : List ℕ) → slice_cmp nat_cmp xs [] ≡ Less → (x : ℕ)
    → slice_cmp nat_cmp (x ∷ xs) [] ≡ Less
not_below_none [] less x = cc
not_below_none (y ∷ xs) less x = cc

-- what spells a smaller number comes before
ahead : (k a : ℕ) (xs ys : List ℕ) → Bytes xs → Bytes ys → spelt k a xs < spelt k a ys
    → slice_cmp nat_cmp xs ys ≡ Less
ahead zero a xs ys p q l = absurd (omega (arith, l))
ahead (suc k) a [] [] p q l = ahead k (a * 256) [] [] p q l
ahead (suc k) a [] (y ∷ ys) p q l = refl
ahead (suc k) a (zero ∷ xs) [] p q l =
    not_below_none xs (ahead k (a * 256) xs [] (λ at. p (suc at)) q
    (subst (λ n. spelt k n xs < spelt k (a * 256) []) (omega arith) l)) zero
ahead (suc k) a (suc x ∷ xs) [] p q l =
    let over : spelt k (a * 256) [] < spelt k (a * 256 + suc x) xs =
    rises k (a * 256) (a * 256 + suc x) [] xs q (omega arith) in
    absurd (omega (arith, over, l))
ahead (suc k) a (x ∷ xs) (y ∷ ys) p q l =
    by (λ level. ahead k (a * 256 + x) xs ys (λ at. p (suc at)) (λ at. q (suc at))
    (subst (λ z. spelt k (a * 256 + x) xs < spelt k (a * 256 + z) ys) (sym level) l))
    (nat_cmp x y) (ranks x y)
  where
    by : (x ≡ y → slice_cmp nat_cmp xs ys ≡ Less) → (o : Ordering)
        → MatchOrdering o (x < y) (x ≡ y) (y < x)
        → ordering_then o (slice_cmp nat_cmp xs ys) ≡ Less
    by rest Less is = refl
    by rest Equal is = rest is
    by rest Greater is =
        let above : y < x = is in
        let over : spelt k (a * 256 + y) ys < spelt k (a * 256 + x) xs =
        rises k (a * 256 + y) (a * 256 + x) ys xs (λ at. q (suc at)) (omega (arith, above)) in
        absurd (omega (arith, over, l))

-- bytes from a place on are those of the rest
bytes_behind : (x : ℕ) (xs : List ℕ) (at n : ℕ)
    → bytes_from (x ∷ xs) (suc at) n ≡ bytes_from xs at n
bytes_behind x xs at zero = refl
bytes_behind x xs at (suc n) = ap (λ l. slice_index_or xs at 0 ∷ l) (bytes_behind x xs (suc at) n)

-- a list's bytes, spelt out
abbrev spelt_out : ℕ → List ℕ → ℕ
spelt_out n [] = n
spelt_out n (b ∷ bs) = spelt_out (n * 256 + b) bs

none_behind : (at n : ℕ) → bytes_from [] (suc at) n ≡ bytes_from [] at n
none_behind at zero = refl
none_behind at (suc n) = ap (λ l. 0 ∷ l) (none_behind (suc at) n)

spelt_same : (k n : ℕ) (xs : List ℕ) → spelt_out n (bytes_from xs 0 k) ≡ spelt k n xs
spelt_same zero n xs = refl
spelt_same (suc k) n [] =
    ap (λ l. spelt_out (n * 256 + 0) l) (none_behind 0 k)
    ∙ ap (λ m. spelt_out m (bytes_from [] 0 k)) (omega arith)
    ∙ spelt_same k (n * 256) []
spelt_same (suc k) n (x ∷ xs) =
    ap (λ l. spelt_out (n * 256 + x) l) (bytes_behind x xs 0 k) ∙ spelt_same k (n * 256 + x) xs

head_spelt : (xs : List ℕ) → head_of xs ≡ spelt 8 0 xs
head_spelt xs =
    let sums : head_of xs ≡ spelt_out 0 (bytes_from xs 0 8) = omega arith in
    sums ∙ spelt_same 8 0 xs

pub heads_order : (xs ys : List ℕ) → Bytes xs → Bytes ys → head_of xs < head_of ys
    → slice_cmp nat_cmp xs ys ≡ Less
heads_order xs ys p q l = ahead 8 0 xs ys p q
    (subst₂ (λ m n. m < n) (head_spelt xs) (head_spelt ys) l)

pub heads_turned : (xs ys : List ℕ) → Bytes xs → Bytes ys → head_of ys < head_of xs
    → slice_cmp nat_cmp xs ys ≡ Greater
heads_turned xs ys p q l = nat_list_cmp_total.antisymm xs ys
    ∙ ap ordering_reverse (heads_order ys xs q p l)
