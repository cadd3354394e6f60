-- Texts that say no network, and lists of texts that say networks.
use Rattle.std.proofs.Common.{◌≡◌, ℕ, List, [], ◌∷◌, ◌++◌, Option, None, Some, length, refl, arith}
use Rattle.std.proofs.Common.{eqb, ◌<◌, append_assoc, ap, map, ◌∙◌}
use Rattle.std.proofs.lemmas.List.{map-append}
use Rattle.std.proofs.lemmas.List.Splits.{length-slice_split}
use Rattle.line_words.specs.Words.{parts}
use Rattle.command_line.specs.Networks.{before, last_bits, network_of, network_parts, networks_of}
use Rattle.command_line.specs.declared.network.Network.{Network}
use Rattle.command_line.specs.declared.networks.Family.{Family}

three : (family : Family) (bits : List ℕ) (others : List (List ℕ)) → 0 < length others
    → last_bits family (bits ∷ others) ≡ None
three family bits [] h = absurd (omega arith)
three family bits (more ∷ others) h = refl

-- a second slash
pub too_many : (family : Family) (bits more : List ℕ)
    → last_bits family (bits ∷ parts 47 more) ≡ None
unfolding parts
too_many family bits more = three family bits _
    (omega (arith, length-slice_split (λ byte. eqb byte 47) more))

-- networks that were read before stand in front
abbrev pub with_front :
    List (ℕ × ℕ) → Option (List (ℕ × ℕ)) → Option (List (ℕ × ℕ))
with_front front None = None
with_front front (Some rest) = Some (front ++ rest)

-- one more is read: it stands in front
pub one_more : (front : List (ℕ × ℕ)) (x : ℕ × ℕ) (rest : Option (List (ℕ × ℕ)))
    → with_front (front ++ x ∷ []) rest ≡ with_front front (before (Some x) rest)
one_more front x None = refl
one_more front x (Some rest) = ap Some (append_assoc front (x ∷ []) rest)

-- one more text says a network
pub one_read : (networks : List Network) (network : Network) (texts : List (List ℕ))
    (text : List ℕ) → Some (network_parts network) ≡ network_of text
    → with_front (map network_parts (networks ++ network ∷ [])) (networks_of texts)
    ≡ with_front (map network_parts networks) (networks_of (text ∷ texts))
one_read networks network texts text read =
    ap (λ front. with_front front (networks_of texts))
    (map-append network_parts networks (network ∷ []))
    ∙ one_more (map network_parts networks) (network_parts network) (networks_of texts)
    ∙ ap (λ first. with_front (map network_parts networks) (before first (networks_of texts))) read
