-- The first bytes of a word, and texts one behind the other.
use Rattle.std.proofs.Common.{◌≡◌, ◌≤◌, ◌∙◌, ℕ, List, ◌++◌, append_assoc, ap, length, take}
use Rattle.std.proofs.lemmas.List.{take_all}

pub take_short : (n : ℕ) (xs : List ℕ) → length xs ≤ n → take n xs ≡ xs
take_short n xs short = take_all n xs short

-- a text behind what stands there so far
pub text_behind : (before middle after so text : List ℕ) → middle ≡ before ++ so
    → after ≡ middle ++ text → after ≡ before ++ (so ++ text)
text_behind before middle after so text first next =
    next ∙ ap (λ t. t ++ text) first ∙ append_assoc before so text

-- a label and a number
pub counted_behind : (before middle after so label number : List ℕ) → middle ≡ before ++ so
    → after ≡ middle ++ label ++ number → after ≡ before ++ (so ++ label ++ number)
counted_behind before middle after so label number first next =
    next ∙ ap (λ t. t ++ label ++ number) first
    ∙ ap (λ t. t ++ number) (append_assoc before so label)
    ∙ append_assoc before (so ++ label) number
