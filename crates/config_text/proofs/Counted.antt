-- Labels and numbers, one behind the other.
use Rattle.std.proofs.Common.{◌≡◌, ◌∙◌, ℕ, List, ◌++◌, append_assoc, ap}

-- a label and a number behind what stands there so far
pub behind : (before middle after so label number : List ℕ) → middle ≡ before ++ so
    → after ≡ middle ++ label ++ number → after ≡ before ++ (so ++ label ++ number)
behind before middle after so label number first next =
    next ∙ ap (λ t. t ++ label ++ number) first
    ∙ ap (λ t. t ++ number) (append_assoc before so label)
    ∙ append_assoc before (so ++ label) number

-- a text behind it
pub text_behind : (before middle after so text : List ℕ) → middle ≡ before ++ so
    → after ≡ middle ++ text → after ≡ before ++ (so ++ text)
text_behind before middle after so text first next =
    next ∙ ap (λ t. t ++ text) first ∙ append_assoc before so text
