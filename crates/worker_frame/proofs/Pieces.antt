-- Lines within pieces.
use Rattle.std.proofs.Common.{◌≡◌, ℕ, ◌+◌, ◌-◌, ◌<◌, ◌||◌, eqb, List, ◌∷◌, ◌++◌, length, get_or}
use Rattle.std.proofs.Common.{take, drop, Some, None, suc, ap, sym, ◌∙◌, add-one, arith}
use Rattle.std.proofs.Common.{length-take-le, zero, refl, ◌≤◌, []}
use Rattle.std.proofs.Math.Seq.{drop-cons}
use Rattle.std.specs.List.{list_any, position}
use Rattle.std.proofs.lemmas.Bool.{eqb-true}
use Rattle.std.proofs.lemmas.List.{take-append-drop, get_or-take, length-drop}
use Rattle.std.proofs.lemmas.List.Folds.{list_any_none, list_any-append}
use Rattle.std.proofs.lemmas.List.Sums.{fails_before_first}
use Rattle.std.proofs.lemmas.List.Quantifiers.{position-Some}
use Rattle.line_words.proofs.Splitting.{position-is, position-none}
use Rattle.worker_frame.specs.Lines.{HasNoEnd}

-- a short list is taken whole
pub take_short : {A : Type 0} (n : ℕ) (xs : List A) → length xs ≤ n → take n xs ≡ xs
take_short zero [] le = refl
take_short (suc n) [] le = refl
take_short zero (x ∷ xs) le = absurd (omega arith)
take_short (suc n) (x ∷ xs) le = ap (λ ys. x ∷ ys) (take_short n xs (omega arith))

-- bytes among which LF stands nowhere
pub none_at_all : (xs : List ℕ) → position (λ byte. eqb byte 10) xs ≡ None → HasNoEnd xs
none_at_all xs none =
    list_any_none (λ byte. eqb byte 10) xs (λ k d below. fails_before_first (λ byte. eqb byte 10) xs
    k d (omega (arith, position-none (λ byte. eqb byte 10) xs none)))

-- bytes before the first LF
pub none_before : (xs : List ℕ) (i : ℕ) → position (λ byte. eqb byte 10) xs ≡ Some i
    → HasNoEnd (take i xs)
none_before xs i at =
    let is = position-is (λ byte. eqb byte 10) xs i at in
    list_any_none (λ byte. eqb byte 10) (take i xs) (λ k d below.
    let short : k < i = omega (arith, below, length-take-le i xs (omega (arith, is.0, is.1))) in
    ap (λ byte. eqb byte 10) (get_or-take i xs k d short)
    ∙ fails_before_first (λ byte. eqb byte 10) xs k d (omega (arith, is.1)))

-- bytes with LF among them, parted at the first one
pub parted : (xs : List ℕ) (i : ℕ) → position (λ byte. eqb byte 10) xs ≡ Some i
    → xs ≡ take i xs ++ 10 ∷ drop (i + 1) xs
parted xs i at =
    let found = position-Some (λ byte. eqb byte 10) xs i 0 at in
    let byte : get_or xs i 0 ≡ 10 = eqb-true (get_or xs i 0) 10 found.1 in
    sym (take-append-drop i xs) ∙ ap (λ ys. take i xs ++ ys) (drop-cons xs i 0 found.0
    ∙ (ap (λ b. b ∷ drop (suc i) xs) byte ∙ ap (λ k. 10 ∷ drop k xs) (sym (add-one i))))

-- a line goes on
pub none_in_both : (xs ys : List ℕ) → HasNoEnd xs → HasNoEnd ys → HasNoEnd (xs ++ ys)
none_in_both xs ys none_x none_y = list_any-append (λ byte. eqb byte 10) xs ys
    ∙ (ap (λ b. b || list_any (λ byte. eqb byte 10) ys) none_x ∙ none_y)

-- the same, where the bytes behind LF are counted
pub parted_count : (xs : List ℕ) (i : ℕ) → position (λ byte. eqb byte 10) xs ≡ Some i
    → xs ≡ take i xs ++ 10 ∷ take (length xs - (i + 1)) (drop (i + 1) xs)
parted_count xs i at =
    let long = length-drop (i + 1) xs in
    let whole : take (length xs - (i + 1)) (drop (i + 1) xs) ≡ drop (i + 1) xs =
    take_short (length xs - (i + 1)) (drop (i + 1) xs) (omega (arith, long)) in
    parted xs i at ∙ ap (λ ys. take i xs ++ 10 ∷ ys) (sym whole)

-- what parts a piece at its first LF
pub ruleset parting = (none_at_all, none_before, parted)
