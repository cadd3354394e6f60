use Rattle.std.proofs.Common.{◌≡◌, ℕ, List, [], ◌∷◌, ◌++◌, zero, suc, refl, ap, ◌∙◌, arith}
use Rattle.std.proofs.Common.{length-append}
use Rattle.ranked.specs.Leaders.{bounds_of}
use Rattle.ranked.proofs.leaders.Leaders.new.Goals as goal

none_more : (lists : List (List (List ℕ × ℕ))) → ((list : ℕ) → bounds_of lists list ≡ [])
    → (list : ℕ) → bounds_of (lists ++ [] ∷ []) list ≡ []
none_more [] none zero = refl
none_more [] none (suc list) = refl
none_more (x ∷ xs) none zero = none zero
none_more (x ∷ xs) none (suc list) = none_more xs (λ n. none (suc n)) list

pub loop-preserved : goal.loop-preserved
loop-preserved c =
    let items : c.push.new.self.items ≡ c.loop.lists.items ++ [] ∷ [] = c.in_ok-push.ensures.items
    ∙ ap (λ bounds. c.loop.lists.items ++ bounds ∷ []) c.new.ensures in
    rw items (
      omega (arith, length-append c.loop.lists.items ([] ∷ [])),
      none_more c.loop.lists.items c.loop.invariant.1,
    )
