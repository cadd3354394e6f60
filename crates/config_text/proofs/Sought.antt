-- What stands behind the first lines of a text.
use Rattle.std.proofs.Common.{◌≡◌, ◌≤◌, ℕ, ◌+◌, ◌-◌, List, [], drop, get_or, ap, ◌∙◌, arith}
use Rattle.std.proofs.lemmas.List.{drop-drop, get_or-drop}

-- the first line behind so many is the one of the next number
pub behind_first : (lines left : List (List ℕ)) (k : ℕ) → left ≡ drop k lines
    → get_or left 0 [] ≡ get_or lines k []
behind_first lines left k is =
    let place : k + 0 ≡ k = omega arith in
    ap (λ ls. get_or ls 0 []) is ∙ (get_or-drop k lines 0 []
    ∙ ap (λ i. get_or lines i []) place)

-- what stands behind more lines
pub behind_more : (lines left : List (List ℕ)) (before ahead : ℕ) → before ≤ ahead
    → left ≡ drop before lines → drop (ahead - before) left ≡ drop ahead lines
behind_more lines left before ahead within is =
    let place : before + (ahead - before) ≡ ahead = omega (arith, within) in
    ap (λ ls. drop (ahead - before) ls) is ∙ (drop-drop (ahead - before) before lines
    ∙ ap (λ k. drop k lines) place)
