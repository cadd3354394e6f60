-- Commands within pieces.
use Rattle.std.proofs.Common.{◌≡◌, ℕ, ◌+◌, ◌-◌, ◌<◌, ◌||◌, true, List, ◌∷◌, ◌++◌, length, get_or}
use Rattle.std.proofs.Common.{take, drop, Some, None, suc, ap, sym, ◌∙◌, add-one, arith}
use Rattle.std.proofs.Common.{length-take-le}
use Rattle.std.proofs.Math.Seq.{drop-cons}
use Rattle.std.specs.List.{list_any, position}
use Rattle.std.proofs.lemmas.List.{take-append-drop, get_or-take, length-drop}
use Rattle.std.proofs.lemmas.List.Folds.{list_any_none, list_any-append}
use Rattle.std.proofs.lemmas.List.Sums.{fails_before_first}
use Rattle.std.proofs.lemmas.List.Quantifiers.{position-Some}
use Rattle.line_words.proofs.Splitting.{position-is, position-none}
use Rattle.worker_frame.proofs.Pieces.{take_short}
use Rattle.admin_worker.specs.Framing.{HasNoEnd, is_end}

-- bytes among which no end stands
pub none_at_all : (xs : List ℕ) → position is_end xs ≡ None → HasNoEnd xs
none_at_all xs none =
    list_any_none is_end xs (λ k d below. fails_before_first is_end xs k d
    (omega (arith, position-none is_end xs none)))

-- bytes before the first end
pub none_before : (xs : List ℕ) (i : ℕ) → position is_end xs ≡ Some i → HasNoEnd (take i xs)
none_before xs i at =
    let is = position-is is_end xs i at in
    list_any_none is_end (take i xs) (λ k d below.
    let short : k < i = omega (arith, below, length-take-le i xs (omega (arith, is.0, is.1))) in
    ap is_end (get_or-take i xs k d short)
    ∙ fails_before_first is_end xs k d (omega (arith, is.1)))

-- what stands at the first end
pub end_there : (xs : List ℕ) (i : ℕ) → position is_end xs ≡ Some i
    → is_end (get_or xs i 0) ≡ true
end_there xs i at = (position-Some is_end xs i 0 at).1

-- bytes with an end among them, parted at the first one; those behind it are counted
pub parted_count : (xs : List ℕ) (i : ℕ) → position is_end xs ≡ Some i
    → xs ≡ take i xs ++ get_or xs i 0 ∷ take (length xs - (i + 1)) (drop (i + 1) xs)
parted_count xs i at =
    let found = position-Some is_end xs i 0 at in
    let long = length-drop (i + 1) xs in
    let whole : take (length xs - (i + 1)) (drop (i + 1) xs) ≡ drop (i + 1) xs =
    take_short (length xs - (i + 1)) (drop (i + 1) xs) (omega (arith, long)) in
    sym (take-append-drop i xs) ∙ ap (λ ys. take i xs ++ ys) (drop-cons xs i 0 found.0
    ∙ (ap (λ k. get_or xs i 0 ∷ drop k xs) (sym (add-one i))
    ∙ ap (λ ys. get_or xs i 0 ∷ ys) (sym whole)))

-- a command goes on
pub none_in_both : (xs ys : List ℕ) → HasNoEnd xs → HasNoEnd ys → HasNoEnd (xs ++ ys)
none_in_both xs ys none_x none_y = list_any-append is_end xs ys
    ∙ (ap (λ b. b || list_any is_end ys) none_x ∙ none_y)

-- what parts a piece at its first end
pub ruleset parting = (none_at_all, none_before, end_there)
