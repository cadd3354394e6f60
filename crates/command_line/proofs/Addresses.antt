-- Texts that say no address.
use Rattle.std.proofs.Common.{◌≡◌, ℕ, ◌+◌, ◌-◌, ◌*◌, ◌/◌, ◌%◌, ◌<◌, suc, List, [], ◌∷◌, None}
use Rattle.std.proofs.Common.{length, get_or, drop, drop-cons, zero, ap, sym, ◌∙◌, refl, arith, eqb}
use Rattle.std.proofs.lemmas.List.Splits.{length-slice_split}
use Rattle.std.specs.Net.Addr.{octets_of, segments_of}
use Rattle.line_words.specs.Words.{parts}
use Rattle.command_line.specs.Address.{address_from, bracketed}

three : (ip port : List ℕ) (others : List (List ℕ)) → 0 < length others
    → address_from (ip ∷ port ∷ others) ≡ None
three ip port [] h = absurd (omega arith)
three ip port (more ∷ others) h = refl

-- a second colon
pub too_many : (ip port more : List ℕ) → address_from (ip ∷ port ∷ parts 58 more) ≡ None
unfolding parts
too_many ip port more = three ip port _
    (omega (arith, length-slice_split (λ byte. eqb byte 58) more))

three_bracketed : (ip port : List ℕ) (others : List (List ℕ)) → 0 < length others
    → bracketed (ip ∷ port ∷ others) ≡ None
three_bracketed ip port [] h = absurd (omega arith)
three_bracketed ip port (more ∷ others) h = refl

-- a second `]`
pub too_many_brackets : (ip port more : List ℕ) → bracketed (ip ∷ port ∷ parts 93 more) ≡ None
unfolding parts
too_many_brackets ip port more = three_bracketed ip port _
    (omega (arith, length-slice_split (λ byte. eqb byte 93) more))

-- bytes, an even number of them, are those of their pairs
pub octets_back : (n : ℕ) (bytes : List ℕ) → length bytes ≡ 2 * n
    → ((k : ℕ) → get_or bytes k 0 < 256) → octets_of (segments_of bytes) ≡ bytes
octets_back n [] even small = refl
octets_back n (a ∷ []) even small = absurd (omega arith)
octets_back n (a ∷ b ∷ rest) even small =
    let low : b < 256 = small 1 in
    let high : (a * 256 + b) / 256 ≡ a = omega arith in
    let last : (a * 256 + b) % 256 ≡ b = omega arith in
    λ i. high i ∷ last i ∷ octets_back (n - 1) rest (omega arith) (λ k. small (suc (suc k))) i

-- nothing stands behind the last one
none_left : (n : ℕ) (xs : List ℕ) → length xs ≡ n → [] ≡ drop n xs
none_left zero [] is = refl
none_left zero (x ∷ xs) is = absurd (omega arith)
none_left (suc n) [] is = absurd (omega arith)
none_left (suc n) (x ∷ xs) is = none_left n xs (omega arith)

-- one before the others
one_before : (xs rest : List ℕ) (i : ℕ) → i < length xs → rest ≡ drop (suc i) xs
    → get_or xs i 0 ∷ rest ≡ drop i xs
one_before xs rest i within is = ap (λ t. get_or xs i 0 ∷ t) is ∙ sym (drop-cons xs i 0 within)

-- sixteen bytes, told apart
pub sixteen : (xs : List ℕ) → length xs ≡ 16
    → get_or xs 0 0 ∷ get_or xs 1 0 ∷ get_or xs 2 0 ∷ get_or xs 3 0 ∷ get_or xs 4 0
    ∷ get_or xs 5 0 ∷ get_or xs 6 0 ∷ get_or xs 7 0 ∷ get_or xs 8 0 ∷ get_or xs 9 0
    ∷ get_or xs 10 0 ∷ get_or xs 11 0 ∷ get_or xs 12 0 ∷ get_or xs 13 0 ∷ get_or xs 14 0
    ∷ get_or xs 15 0 ∷ [] ≡ xs
sixteen xs is =
    let before : (i : ℕ) → i < 16 → (rest : List ℕ) → rest ≡ drop (suc i) xs
    → get_or xs i 0 ∷ rest ≡ drop i xs =
    λ i within rest e. one_before xs rest i (omega (arith, within, is)) e in
    before 0 (omega arith) _ (before 1 (omega arith) _
    (before 2 (omega arith) _ (before 3 (omega arith) _
    (before 4 (omega arith) _ (before 5 (omega arith) _
    (before 6 (omega arith) _ (before 7 (omega arith) _
    (before 8 (omega arith) _ (before 9 (omega arith) _
    (before 10 (omega arith) _ (before 11 (omega arith) _
    (before 12 (omega arith) _ (before 13 (omega arith) _
    (before 14 (omega arith) _ (before 15 (omega arith) _
    (none_left 16 xs is))))))))))))))))
