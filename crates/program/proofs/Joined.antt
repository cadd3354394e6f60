-- Texts of files, one behind the other.
use Rattle.std.proofs.Common.{◌≡◌, ◌<◌, ℕ, ◌+◌, List, [], ◌∷◌, ◌++◌, Option, None, Some, IfSome}
use Rattle.std.proofs.Common.{take, get_or, ap, ap₂, ◌∙◌, fold, length}
use Rattle.std.specs.Borrow.{Bor}
use Rattle.std.proofs.lemmas.List.{take_more}
use Rattle.std.proofs.lemmas.List.Sums.{fold-append}
use Rattle.program.specs.Texts.{joined_of, with_more}

-- one more file
pub joined_more : (holds : List ℕ → Option (List ℕ)) (names : List (Bor (List ℕ))) (i : ℕ)
    (d : Bor (List ℕ)) → i < length names
    → joined_of holds (take (i + 1) names)
    ≡ with_more (joined_of holds (take i names)) (holds (get_or names i d).now)
joined_more holds names i d within =
    ap (joined_of holds) (take_more names i d within)
    ∙ fold-append (λ text (name : Bor (List ℕ)). with_more text (holds name.now)) (Some [])
    (take i names) (get_or names i d ∷ [])

-- what is read of it stands behind what was read
pub read_more : (before more : Option (List ℕ)) (text part : List ℕ)
    → IfSome before (λ known. text ≡ known) → IfSome more (λ known. part ≡ known)
    → IfSome (with_more before more) (λ known. text ++ part ++ 10 ∷ [] ≡ known)
read_more None more text part knows is = tt
read_more (Some known) None text part knows is = tt
read_more (Some known) (Some file) text part knows is = ap₂ (λ a b. a ++ b ++ 10 ∷ []) knows is
