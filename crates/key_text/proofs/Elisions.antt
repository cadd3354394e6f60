-- What an IPv6 address with `::` is read as.
use Rattle.std.proofs.Common.{◌≡◌, ℕ, zero, suc, ◌+◌, ◌*◌, ◌-◌, ◌<◌, true, false, eqb}
use Rattle.std.proofs.Common.{leb, List, [], ◌∷◌, ◌++◌, length, replicate}
use Rattle.std.proofs.Common.{refl, arith, inl, inr, Option, Some, None, ap, sym, ◌∙◌, append_assoc}
use Rattle.std.proofs.Common.{length-append, eq-eqb}
use Rattle.std.proofs.Math.Seq.{take-append_seam, drop-append-add}
use Rattle.std.proofs.lemmas.Bool.{and_parts, cases_Bool, eqb-true}
use Rattle.std.proofs.lemmas.Bool.Decides.{nat_tests}
use Rattle.std.proofs.lemmas.List.{append-nil, length-replicate}
use Rattle.std.proofs.lemmas.List.Folds.{list_all-append}
use Rattle.std.specs.List.{join_with_byte, list_all}
use Rattle.std.specs.Option.{option_map}
use Rattle.agg_types.specs.declared.config.KeyKind.TheVariants.{Ipv6}
use Rattle.agg_types.specs.Fits.{key_fits}
use Rattle.line_words.specs.Words.{parts}
use Rattle.line_words.proofs.WordsBack.{differs, parts-join}
use Rattle.hex.specs.Hex.{IsBytes}
use Rattle.key_text.specs.Printed.{groups}
use Rattle.key_text.specs.Elided.{elided, is_part, with_groups}
use Rattle.key_text.specs.Read.{all_bytes, back_bytes, elision, front_bytes, groups_of}
use Rattle.key_text.specs.Read.{if_fits, ipv6_of, joined, key_of, number_up_to}
use Rattle.key_text.specs.Read.{part_bytes, with_zeros}
use Rattle.key_text.specs.declared.parts.Part.TheVariants.{Group}
use Rattle.key_text.proofs.Groups.{groups_of-cons}
use Rattle.key_text.proofs.RoundTrip.{groups_free, groups_read}

-- ---- where `::` stands

map_add : (m n : ℕ) (found : Option ℕ) → option_map (λ at. at + m) (option_map (λ at. at + n) found)
    ≡ option_map (λ at. at + (n + m)) found
map_add m n None = refl
map_add m n (Some at) = ap Some (omega arith)

map_none : (found : Option ℕ) → option_map (λ at. at + 0) found ≡ found
map_none None = refl
map_none (Some at) = ap Some (omega arith)

-- a byte that is no colon
skip_byte : (x : ℕ) (rest : List ℕ) → eqb x 58 ≡ false
    → elision (x ∷ rest) ≡ option_map (λ at. at + 1) (elision rest)
skip_byte x [] other = refl
skip_byte x (b ∷ rest) other = rw other refl

-- bytes that are no colons
skip_bytes : (front rest : List ℕ) → list_all (differs 58) front ≡ true
    → elision (front ++ rest) ≡ option_map (λ at. at + length front) (elision rest)
skip_bytes [] rest free = sym (map_none (elision rest))
skip_bytes (x ∷ front) rest free =
    elim (cases_Bool (eqb x 58)) [
      | inl same ↦ absurd (let bad : false ≡ true = rw same at free in cc)
      | inr other ↦
          let less : list_all (differs 58) front ≡ true = rw other at free in
          let more : length front + 1 ≡ suc (length front) = omega arith in
          skip_byte x (front ++ rest) other
          ∙ (ap (option_map (λ at. at + 1)) (skip_bytes front rest less)
          ∙ (map_add 1 (length front) (elision rest)
          ∙ ap (λ n. option_map (λ at. at + n) (elision rest)) more))
    ]

-- a colon before a byte that is none
skip_colon : (text rest : List ℕ) → is_part text ≡ true
    → elision (58 ∷ (text ++ rest)) ≡ option_map (λ at. at + 1) (elision (text ++ rest))
skip_colon [] rest part = absurd cc
skip_colon (b ∷ text) rest part =
    elim (cases_Bool (eqb b 58)) [
      | inl same ↦ absurd (let bad : false ≡ true = rw same at part in cc)
      | inr other ↦ rw other refl
    ]

-- a colon before parts joined by colons
skip_join : (text : List ℕ) (texts : List (List ℕ)) (rest : List ℕ)
    → list_all is_part (text ∷ texts) ≡ true
    → elision (58 ∷ (join_with_byte 58 (text ∷ texts) ++ rest))
    ≡ option_map (λ at. at + 1) (elision (join_with_byte 58 (text ∷ texts) ++ rest))
skip_join text [] rest all = skip_colon text rest (and_parts (is_part text) true all).0
skip_join text (next ∷ texts) rest all =
    let others = 58 ∷ join_with_byte 58 (next ∷ texts) in
    rw (append_assoc text others rest) (skip_colon text (others ++ rest)
    (and_parts (is_part text) (list_all is_part (next ∷ texts)) all).0)

-- a part has no colon
part_free : (text : List ℕ) → is_part text ≡ true → list_all (differs 58) text ≡ true
part_free [] part = refl
part_free (byte ∷ rest) part = part

-- parts joined by colons have no `::`, so the first is that of what stands behind them
elision-join : (texts : List (List ℕ)) (rest : List ℕ) → list_all is_part texts ≡ true
    → elision (join_with_byte 58 texts ++ rest)
    ≡ option_map (λ at. at + length (join_with_byte 58 texts)) (elision rest)
elision-join [] rest all = sym (map_none (elision rest))
elision-join (text ∷ []) rest all =
    skip_bytes text rest (part_free text (and_parts (is_part text) true all).0)
elision-join (text ∷ next ∷ texts) rest all =
    let h = and_parts (is_part text) (list_all is_part (next ∷ texts)) all in
    let others = join_with_byte 58 (next ∷ texts) in
    let colon = skip_join next texts rest h.1 in
    let more = elision-join (next ∷ texts) rest h.1 in
    let total : length others + 1 + length text ≡ length (text ++ 58 ∷ others) =
    omega (arith, length-append text (58 ∷ others)) in
    rw (append_assoc text (58 ∷ others) rest) (skip_bytes text (58 ∷ (others ++ rest))
    (part_free text h.0)
    ∙ (ap (option_map (λ at. at + length text)) (colon ∙ (ap (option_map (λ at. at + 1)) more
    ∙ map_add 1 (length others) (elision rest)))
    ∙ (map_add (length text) (length others + 1) (elision rest)
    ∙ ap (λ n. option_map (λ at. at + n) (elision rest)) total)))

parts_free : (texts : List (List ℕ)) → list_all is_part texts ≡ true
    → list_all (list_all (differs 58)) texts ≡ true
parts_free [] all = refl
parts_free (text ∷ texts) all =
    let h = and_parts (is_part text) (list_all is_part texts) all in
    rw (part_free text h.0, parts_free texts h.1) refl

-- parts joined by colons come apart again
parts_back : (text : List ℕ) (texts : List (List ℕ)) → list_all is_part (text ∷ texts) ≡ true
    → parts 58 (join_with_byte 58 (text ∷ texts)) ≡ text ∷ texts
parts_back text texts all = parts-join 58 text texts (parts_free (text ∷ texts) all)

-- an address with all its groups
ipv6_of-groups : (text : List ℕ) (texts : List (List ℕ))
    → list_all is_part (text ∷ texts) ≡ true
    → ipv6_of (join_with_byte 58 (text ∷ texts)) ≡ groups_of (text ∷ texts)
unfolding ipv6_of
ipv6_of-groups text texts all =
    let address = join_with_byte 58 (text ∷ texts) in
    let none : elision address ≡ None =
    rw append-nil at (elision-join (text ∷ texts) [] all) in
    rw none (ap groups_of (parts_back text texts all))

ipv6_of-all : (texts : List (List ℕ)) → 0 < length texts → list_all is_part texts ≡ true
    → ipv6_of (join_with_byte 58 texts) ≡ groups_of texts
ipv6_of-all [] some all = absurd (omega arith)
ipv6_of-all (text ∷ texts) some all = ipv6_of-groups text texts all

groups_some : (key : List ℕ) → 0 < length key → 0 < length (groups key)
groups_some [] some = absurd (omega arith)
groups_some (last ∷ []) some = omega arith
groups_some (high ∷ low ∷ key) some = omega arith

-- ---- groups

-- what was joined
joined-some : (front back : Option (List ℕ)) (bytes : List ℕ) → joined front back ≡ Some bytes
    → (f : List ℕ) × (b : List ℕ) × (front ≡ Some f) × (back ≡ Some b) × (bytes ≡ f ++ b)
joined-some None back bytes h = absurd cc
joined-some (Some f) None bytes h = absurd cc
joined-some (Some f) (Some b) bytes h = (f, b, refl, refl, cc)

joined_assoc : (a b c : Option (List ℕ)) → joined (joined a b) c ≡ joined a (joined b c)
joined_assoc None b c = refl
joined_assoc (Some a) None c = refl
joined_assoc (Some a) (Some b) None = refl
joined_assoc (Some a) (Some b) (Some c) = ap Some (append_assoc a b c)

joined_none : (a : Option (List ℕ)) → joined (Some []) a ≡ a
joined_none None = refl
joined_none (Some a) = refl

-- groups that are all of hexadecimal digits
groups_of-all : (texts : List (List ℕ)) (bytes : List ℕ) → all_bytes Group texts ≡ Some bytes
    → groups_of texts ≡ Some bytes
groups_of-all [] bytes h = h
groups_of-all (text ∷ []) bytes h =
    let p = joined-some (part_bytes Group text) (Some []) bytes h in
    let whole : p.0 ≡ bytes = cc (append-nil p.0) in
    rw p.2 (ap Some whole)
groups_of-all (text ∷ next ∷ texts) bytes h =
    let p = joined-some (part_bytes Group text) (all_bytes Group (next ∷ texts)) bytes h in
    rw (p.2, groups_of-all (next ∷ texts) p.1 p.3) (ap Some (sym p.4))

-- groups before others
groups_of-append : (front texts : List (List ℕ)) → 0 < length texts
    → groups_of (front ++ texts) ≡ joined (all_bytes Group front) (groups_of texts)
groups_of-append [] texts some = sym (joined_none (groups_of texts))
groups_of-append (text ∷ front) texts some =
    groups_of-cons text (front ++ texts) (omega (arith, length-append front texts))
    ∙ (ap (joined (part_bytes Group text)) (groups_of-append front texts some)
    ∙ sym (joined_assoc (part_bytes Group text) (all_bytes Group front) (groups_of texts)))

zero_group : part_bytes Group (48 ∷ []) ≡ Some (0 ∷ 0 ∷ [])
unfolding number_up_to
zero_group = refl

first_zero : (texts : List (List ℕ))
    → groups_of ((48 ∷ []) ∷ texts) ≡ joined (Some (0 ∷ 0 ∷ [])) (groups_of texts)
first_zero [] = rw zero_group refl
first_zero (next ∷ texts) = rw zero_group refl

-- the bytes of groups of zeros
zeros : ℕ → List ℕ
zeros n = replicate (2 * n) 0

zeros_more : (n : ℕ) → zeros (suc n) ≡ 0 ∷ 0 ∷ zeros n
unfolding zeros
zeros_more n =
    let twice : 2 * suc n ≡ suc (suc (2 * n)) = omega arith in
    rw twice refl

-- groups `0` before others
groups_of-zeros : (n : ℕ) (texts : List (List ℕ))
    → groups_of (replicate n (48 ∷ []) ++ texts) ≡ joined (Some (zeros n)) (groups_of texts)
unfolding zeros
groups_of-zeros zero texts = sym (joined_none (groups_of texts))
groups_of-zeros (suc n) texts =
    let more = groups_of-zeros n texts in
    let back : joined (Some (0 ∷ 0 ∷ [])) (joined (Some (zeros n)) (groups_of texts))
    ≡ joined (Some (zeros (suc n))) (groups_of texts) =
    rw (zeros_more n) (sym (joined_assoc (Some (0 ∷ 0 ∷ [])) (Some (zeros n)) (groups_of texts))) in
    first_zero (replicate n (48 ∷ []) ++ texts) ∙ (ap (joined (Some (0 ∷ 0 ∷ []))) more ∙ back)

-- ---- the law

-- parts joined by colons are some text
join_some : (text : List ℕ) (texts : List (List ℕ)) → list_all is_part (text ∷ texts) ≡ true
    → 0 < length (join_with_byte 58 (text ∷ texts))
join_some [] texts all = absurd cc
join_some (byte ∷ text) [] all = omega arith
join_some (byte ∷ text) (next ∷ texts) all = omega arith

front_some : (text : List ℕ) → 0 < length text
    → front_bytes text ≡ all_bytes Group (parts 58 text)
front_some [] some = absurd (omega arith)
front_some (byte ∷ text) some = refl

back_some : (text : List ℕ) → 0 < length text → back_bytes text ≡ groups_of (parts 58 text)
back_some [] some = absurd (omega arith)
back_some (byte ∷ text) some = refl

-- the bytes of parts before `::`
front_back : (texts : List (List ℕ)) → list_all is_part texts ≡ true
    → front_bytes (join_with_byte 58 texts) ≡ all_bytes Group texts
front_back [] all = refl
front_back (text ∷ texts) all =
    front_some (join_with_byte 58 (text ∷ texts)) (join_some text texts all)
    ∙ ap (all_bytes Group) (parts_back text texts all)

back_back : (texts : List (List ℕ)) → list_all is_part texts ≡ true
    → back_bytes (join_with_byte 58 texts) ≡ groups_of texts
back_back [] all = refl
back_back (text ∷ texts) all =
    back_some (join_with_byte 58 (text ∷ texts)) (join_some text texts all)
    ∙ ap groups_of (parts_back text texts all)

-- an address with `::`
ipv6_of-elided : (front back : List (List ℕ)) → list_all is_part front ≡ true
    → list_all is_part back ≡ true
    → ipv6_of (elided front back) ≡ with_zeros (all_bytes Group front) (groups_of back)
unfolding ipv6_of
ipv6_of-elided front back fronts backs =
    let text = join_with_byte 58 front in
    let rest = 58 ∷ 58 ∷ join_with_byte 58 back in
    let at : elision (text ++ rest) ≡ Some (0 + length text) = elision-join front rest fronts in
    let none : 0 + length text ≡ length text = omega arith in
    let place : elision (text ++ rest) ≡ Some (length text) = at ∙ ap Some none in
    rw place (rw (
      take-append_seam text rest,
      drop-append-add text rest 2,
      front_back front fronts,
      back_back back backs,
    ) refl)

-- zeros that were written out
written_out : (front back : Option (List ℕ)) (n : ℕ) (key : List ℕ) → 0 < n → length key ≡ 16
    → joined front (joined (Some (zeros n)) back) ≡ Some key → with_zeros front back ≡ Some key
unfolding zeros
written_out None back n key some whole h = absurd cc
written_out (Some f) None n key some whole h = absurd cc
written_out (Some f) (Some b) n key some whole h =
    let same : f ++ (replicate (2 * n) 0 ++ b) ≡ key = cc in
    let long : length (f ++ (replicate (2 * n) 0 ++ b)) ≡ 16 = ap length same ∙ whole in
    let total : length f + (2 * n + length b) ≡ 16 =
    simp (length-append, length-replicate) at long in
    let short : leb (length f + length b) 14 ≡ true = grind (arith, nat_tests) in
    let left : 16 - (length f + length b) ≡ 2 * n = omega arith in
    rw (short, left) (ap Some (append_assoc f (replicate (2 * n) 0) b ∙ same))

fitting : (found : Option (List ℕ)) (key : List ℕ) → if_fits Ipv6 found ≡ Some key
    → (found ≡ Some key) × (length key ≡ 16)
fitting None key h = absurd cc
fitting (Some bytes) key h =
    elim (cases_Bool (key_fits Ipv6 bytes)) [
      | inl fits ↦
          let same : Some bytes ≡ Some key = rw fits at h in
          let bytes_same : bytes ≡ key = cc in
          (same, rw (← bytes_same) (eqb-true (length bytes) 16 fits))
      | inr other ↦ absurd (let none : Option (List ℕ) = None in
          let bad : none ≡ Some key = rw other at h in cc)
    ]

zeros_parts : (n : ℕ) → list_all is_part (replicate n (48 ∷ [])) ≡ true
zeros_parts zero = refl
zeros_parts (suc n) = zeros_parts n

-- an address with all its groups, zeros in the middle
ipv6_of-with_groups : (front back : List (List ℕ)) (n : ℕ) → list_all is_part front ≡ true
    → list_all is_part back ≡ true → 0 < n → ipv6_of (with_groups front n back)
    ≡ joined (all_bytes Group front) (joined (Some (zeros n)) (groups_of back))
ipv6_of-with_groups front back n fronts backs some =
    let middle = replicate n (48 ∷ []) in
    let all : list_all is_part (front ++ (middle ++ back)) ≡ true =
    rw (
      list_all-append is_part front (middle ++ back),
      list_all-append is_part middle back,
      fronts,
      zeros_parts n,
      backs,
    ) refl in
    let many : 0 < length (middle ++ back) =
    omega (arith, length-append middle back, length-replicate {A = List ℕ} n (48 ∷ [])) in
    ipv6_of-all (front ++ (middle ++ back))
    (omega (arith, length-append front (middle ++ back))) all
    ∙ (groups_of-append front (middle ++ back) many
    ∙ ap (joined (all_bytes Group front)) (groups_of-zeros n back))

-- an address with `::` is that with groups of zeros in its place
pub elided_is_read : (front back : List (List ℕ)) (n : ℕ) (key : List ℕ)
    → list_all is_part front ≡ true → list_all is_part back ≡ true → 0 < n
    → key_of Ipv6 (with_groups front n back) ≡ Some key → key_of Ipv6 (elided front back) ≡ Some key
elided_is_read front back n key fronts backs some h =
    let read = fitting (ipv6_of (with_groups front n back)) key h in
    let groups = sym (ipv6_of-with_groups front back n fronts backs some) ∙ read.0 in
    let same : ipv6_of (elided front back) ≡ Some key = ipv6_of-elided front back fronts backs
    ∙ written_out (all_bytes Group front) (groups_of back) n key some read.1 groups in
    let fits : eqb (length key) 16 ≡ true = eq-eqb (length key) 16 read.1 in
    rw same (rw fits refl)

-- the text of an IPv6 address is read back
pub address_back : (key : List ℕ) → IsBytes key → length key ≡ 16
    → ipv6_of (join_with_byte 58 (groups key)) ≡ Some key
address_back key bytes sixteen =
    ipv6_of-all (groups key) (groups_some key (omega arith)) (groups_free key bytes)
    ∙ groups_of-all (groups key) key (groups_read key 8 bytes (omega arith))
