-- Groups of IPv6 addresses, and the `::` between them.
use Rattle.std.proofs.Common.{◌≡◌, ℕ, suc, ◌+◌, ◌<◌, true, false, eqb, ◌&&◌, List, []}
use Rattle.std.proofs.Common.{◌∷◌, length, length-drop, drop, get_or, drop-cons, refl, arith}
use Rattle.std.proofs.Common.{Option, Some, None, ap, ◌∙◌}
use Rattle.std.proofs.lemmas.List.Splits.{length-slice_split}
use Rattle.std.specs.Option.{option_map}
use Rattle.line_words.specs.Words.{parts}
use Rattle.key_text.specs.Read.{elision, groups_of, joined, part_bytes}
use Rattle.key_text.specs.declared.parts.Part.TheVariants.{Group}

-- a text has a part
pub length-parts : (c : ℕ) (text : List ℕ) → 0 < length (parts c text)
unfolding parts
length-parts c text = omega (arith, length-slice_split (λ byte. eqb byte c) text)

-- a group before others
pub groups_of-cons : (front : List ℕ) (texts : List (List ℕ)) → 0 < length texts
    → groups_of (front ∷ texts) ≡ joined (part_bytes Group front) (groups_of texts)
groups_of-cons front [] some = absurd (omega arith)
groups_of-cons front (next ∷ texts) some = refl

-- a group before the parts of a text
pub groups_more : (front rest : List ℕ) → groups_of (front ∷ parts 58 rest)
    ≡ joined (part_bytes Group front) (groups_of (parts 58 rest))
groups_more front rest = groups_of-cons front (parts 58 rest) (length-parts 58 rest)

-- the place of `::`, counted from a byte before it
abbrev pub elided_from : ℕ → List ℕ → Option ℕ
elided_from i text = option_map (λ at. at + i) (elision (drop i text))

map_next : (i : ℕ) (found : Option ℕ) → option_map (λ at. at + i) (option_map (λ at. at + 1) found)
    ≡ option_map (λ at. at + (i + 1)) found
map_next i None = refl
map_next i (Some at) = ap Some (omega arith)

map_zero : (found : Option ℕ) → option_map (λ at. at + 0) found ≡ found
map_zero None = refl
map_zero (Some at) = ap Some (omega arith)

-- where two colons stand
two_colons : (a b : ℕ) (rest : List ℕ) → (eqb a 58 && eqb b 58) ≡ true
    → elision (a ∷ b ∷ rest) ≡ Some 0
two_colons a b rest h = rw h refl

-- the two first bytes of what is left
opened : (i : ℕ) (text : List ℕ) → i + 1 < length text
    → drop i text ≡ get_or text i 0 ∷ get_or text (i + 1) 0 ∷ drop (i + 2) text
opened i text within =
    let h : i < length text = omega arith in
    let h2 : suc i < length text = omega arith in
    let one : i + 1 ≡ suc i = omega arith in
    let two : i + 2 ≡ suc (suc i) = omega arith in
    rw (one, two) (drop-cons text i 0 h ∙ ap (λ rest. get_or text i 0 ∷ rest)
    (drop-cons text (suc i) 0 h2))

pub elided_from-here : (i : ℕ) (text : List ℕ) → i + 1 < length text
    → (eqb (get_or text i 0) 58 && eqb (get_or text (i + 1) 0) 58) ≡ true
    → elided_from i text ≡ Some i
elided_from-here i text within both =
    let start : 0 + i ≡ i = omega arith in
    rw (opened i text within) (rw (two_colons (get_or text i 0) (get_or text (i + 1) 0)
    (drop (i + 2) text) both) (ap Some start))

-- two bytes that aren't both colons
no_elision : (a b : ℕ) (rest : List ℕ) → (eqb a 58 && eqb b 58) ≡ false
    → elision (a ∷ b ∷ rest) ≡ option_map (λ at. at + 1) (elision (b ∷ rest))
no_elision a b rest other = rw other refl

-- where they don't
pub elided_from-next : (i : ℕ) (text : List ℕ) → i + 1 < length text
    → (eqb (get_or text i 0) 58 && eqb (get_or text (i + 1) 0) 58) ≡ false
    → elided_from i text ≡ elided_from (i + 1) text
elided_from-next i text within other =
    let h : i + 1 < length text = within in
    let one : i + 1 ≡ suc i = omega arith in
    let two : i + 2 ≡ suc (suc i) = omega arith in
    let lt : suc i < length text = omega arith in
    let behind : drop (i + 1) text ≡ get_or text (i + 1) 0 ∷ drop (i + 2) text =
    rw (one, two) (drop-cons text (suc i) 0 lt) in
    let e : elision (drop i text) ≡ option_map (λ at. at + 1) (elision (drop (i + 1) text)) =
    rw (opened i text within, behind) (no_elision (get_or text i 0) (get_or text (i + 1) 0)
    (drop (i + 2) text) other) in
    rw e (map_next i (elision (drop (i + 1) text)))

short_none : (text : List ℕ) → length text < 2 → elision text ≡ None
short_none [] short = refl
short_none (a ∷ []) short = refl
short_none (a ∷ b ∷ rest) short = absurd (omega arith)

-- of one byte, or none
pub elided_from-end : (i : ℕ) (text : List ℕ) → length text < i + 2 → elided_from i text ≡ None
elided_from-end i text over =
    rw (short_none (drop i text) (omega (arith, length-drop i text))) refl

-- from the first byte on
pub elided_from-start : (text : List ℕ) → elided_from 0 text ≡ elision text
elided_from-start text = map_zero (elision text)
