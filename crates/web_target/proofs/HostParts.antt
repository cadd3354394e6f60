-- Texts that say no host.
use Rattle.std.proofs.Common.{◌≡◌, ◌<◌, ℕ, List, [], ◌∷◌, false, length, refl, arith, eqb}
use Rattle.std.proofs.lemmas.List.Splits.{length-slice_split}
use Rattle.line_words.specs.Words.{parts}
use Rattle.web_target.specs.Hosts.{is_bracketed, is_plain}

three : (names : List (List ℕ)) (host port : List ℕ) (others : List (List ℕ)) → 0 < length others
    → is_plain names (host ∷ port ∷ others) ≡ false
three names host port [] h = absurd (omega arith)
three names host port (more ∷ others) h = refl

-- a second colon
pub too_many : (names : List (List ℕ)) (host port more : List ℕ)
    → is_plain names (host ∷ port ∷ parts 58 more) ≡ false
unfolding parts
too_many names host port more = three names host port _
    (omega (arith, length-slice_split (λ byte. eqb byte 58) more))

three_bracketed : (ip port : List ℕ) (others : List (List ℕ)) → 0 < length others
    → is_bracketed (ip ∷ port ∷ others) ≡ false
three_bracketed ip port [] h = absurd (omega arith)
three_bracketed ip port (more ∷ others) h = refl

-- a second `]`
pub too_many_brackets : (ip port more : List ℕ) → is_bracketed (ip ∷ port ∷ parts 93 more) ≡ false
unfolding parts
too_many_brackets ip port more = three_bracketed ip port _
    (omega (arith, length-slice_split (λ byte. eqb byte 93) more))
