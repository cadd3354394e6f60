-- What the function on bytes says of an integer is what its spelling says.
use Rattle.std.proofs.Common.{◌≡◌, ℕ, suc, ◌^◌, ◌<◌, true, false, ltb, leb, List, [], ◌∷◌, ◌++◌}
use Rattle.std.proofs.Common.{length, get_or, Option, Some, None, Result, Ok, Err, refl, sym, ap}
use Rattle.std.proofs.Common.{subst, ◌∙◌, arith, inl, inr}
use Rattle.std.specs.Prelude.{IsErr}
use Rattle.std.proofs.lemmas.Bool.{ltb-true, ltb-false, le-ltb, lt-leb, le-leb, cases_Bool}
use Rattle.std.proofs.lemmas.Bool.{or_parts}
use Rattle.std.proofs.lemmas.List.{append-nil}
use Rattle.peers_msg.specs.declared.integer.IntTooLarge.{IntTooLarge}
use Rattle.peers_msg.specs.Numeral.{value, IsTail, IsSpelling, tail_front, tail_ends}
use Rattle.peers_msg.specs.Numeral.{spelling_front, spelling_ends, integer_at, IsIntegerAt, IsCut}
use Rattle.peers_msg.specs.Numeral.{IsTooLarge}
use Rattle.peers_msg.proofs.Bounds.{spelling_whole, integer_cut, integer_found, integer_over}
use Rattle.peers_msg.proofs.Appended.{spelling_grows}
use Rattle.peers_msg.proofs.Numerals.{cons_tail, cons_spelling, spelling_at_front, integer_spelled}

abbrev pub IsBytes : List ℕ → Type 0
IsBytes bytes = (i : ℕ) → get_or bytes i 0 < 256

rest_bytes : (b : ℕ) (bytes : List ℕ) → IsBytes (b ∷ bytes) → IsBytes bytes
rest_bytes b bytes fits i = fits (suc i)

-- ---- what is at the front, and what follows

tail_parts : (bytes : List ℕ) → (rest : List ℕ) × (bytes ≡ tail_front bytes ++ rest)
tail_parts [] = ([], refl)
tail_parts (b ∷ bytes) =
    elim (cases_Bool (ltb b 128)) [
      | inl low ↦ (bytes, rw low refl)
      | inr high ↦ let r = tail_parts bytes in (r.0, rw high (ap (λ (bs : List ℕ). b ∷ bs) r.1))
    ]

pub spelling_parts : (bytes : List ℕ) → (rest : List ℕ) × (bytes ≡ spelling_front bytes ++ rest)
spelling_parts [] = ([], refl)
spelling_parts (b ∷ bytes) =
    elim (cases_Bool (ltb b 240)) [
      | inl low ↦ (bytes, rw low refl)
      | inr high ↦ let r = tail_parts bytes in (r.0, rw high (ap (λ (bs : List ℕ). b ∷ bs) r.1))
    ]

tail_is : (bytes : List ℕ) → IsBytes bytes → tail_ends bytes ≡ true → IsTail (tail_front bytes)
tail_is [] fits e = absurd cc
tail_is (b ∷ bytes) fits e =
    elim (cases_Bool (ltb b 128)) [
      | inl low ↦ rw low (ltb-true b 128 low)
      | inr high ↦
          let q : tail_ends bytes ≡ true = rw high at e in
          rw high (cons_tail b (tail_front bytes) (ltb-false b 128 high) (fits 0)
          (tail_is bytes (rest_bytes b bytes fits) q))
    ]

spelling_is : (bytes : List ℕ) → IsBytes bytes → spelling_ends bytes ≡ true
    → IsSpelling (spelling_front bytes)
spelling_is [] fits e = absurd cc
spelling_is (b ∷ bytes) fits e =
    elim (cases_Bool (ltb b 240)) [
      | inl low ↦ rw low (ltb-true b 240 low)
      | inr high ↦
          let q : tail_ends bytes ≡ true = rw high at e in
          rw high (cons_spelling b (tail_front bytes) (ltb-false b 240 high) (fits 0)
          (tail_is bytes (rest_bytes b bytes fits) q))
    ]

tail_goes_on : (bytes : List ℕ) → IsBytes bytes → tail_ends bytes ≡ false → IsTail (bytes ++ 0 ∷ [])
tail_goes_on [] fits e = omega arith
tail_goes_on (b ∷ bytes) fits e =
    let p = or_parts (ltb b 128) (tail_ends bytes) e in
    cons_tail b (bytes ++ 0 ∷ []) (ltb-false b 128 p.0) (fits 0)
    (tail_goes_on bytes (rest_bytes b bytes fits) p.1)

spelling_goes_on : (bytes : List ℕ) → IsBytes bytes → spelling_ends bytes ≡ false
    → IsSpelling (bytes ++ 0 ∷ [])
spelling_goes_on [] fits e = omega arith
spelling_goes_on (b ∷ bytes) fits e =
    let p = or_parts (ltb b 240) (tail_ends bytes) e in
    cons_spelling b (bytes ++ 0 ∷ []) (ltb-false b 240 p.0) (fits 0)
    (tail_goes_on bytes (rest_bytes b bytes fits) p.1)

tail_is_cut : (a more : List ℕ) → 0 < length more → IsTail (a ++ more) → tail_ends a ≡ false
tail_is_cut [] more some t = refl
tail_is_cut (x ∷ []) [] some t = absurd (omega arith)
tail_is_cut (x ∷ []) (c ∷ more) some t = rw (le-ltb x 128 t.0) refl
tail_is_cut (x ∷ y ∷ a) more some t = rw (le-ltb x 128 t.0) (tail_is_cut (y ∷ a) more some t.2)

spelling_is_cut : (a more : List ℕ) → 0 < length more → IsSpelling (a ++ more)
    → spelling_ends a ≡ false
spelling_is_cut [] more some t = refl
spelling_is_cut (x ∷ []) [] some t = absurd (omega arith)
spelling_is_cut (x ∷ []) (c ∷ more) some t = rw (le-ltb x 240 t.0) refl
spelling_is_cut (x ∷ y ∷ a) more some t = rw (le-ltb x 240 t.0) (tail_is_cut (y ∷ a) more some t.2)

-- a front of a spelling is what stands at its own front
front_is_whole : (front more : List ℕ) → IsSpelling (front ++ more) → spelling_front front ≡ front
front_is_whole front [] t =
    let same : front ++ [] ≡ front = append-nil front in
    ap spelling_front (sym same) ∙ (spelling_at_front front [] (subst IsSpelling same t)).0
front_is_whole front (c ∷ more) t =
    spelling_whole front (spelling_is_cut front (c ∷ more) (omega arith) t)

-- ---- the three answers

pub found_is : (bytes : List ℕ) → IsBytes bytes → (n len : ℕ)
    → integer_at bytes ≡ Ok (Some (n, len)) → IsIntegerAt bytes n len
found_is bytes fits n len e =
    let f = integer_found bytes (n, len) e in
    let r = spelling_parts bytes in
    let v : value (spelling_front bytes) ≡ n = ap (λ (p : ℕ × ℕ). p.0) f.2 in
    let l : length (spelling_front bytes) ≡ len = ap (λ (p : ℕ × ℕ). p.1) f.2 in
    (spelling_front bytes, r.0, r.1, spelling_is bytes fits f.1, v, l, omega (arith, v, f.0))

pub is_found : (bytes : List ℕ) (n len : ℕ) → IsIntegerAt bytes n len
    → integer_at bytes ≡ Ok (Some (n, len))
is_found bytes n len h =
    ap integer_at h.2 ∙ integer_spelled h.0 h.1 h.3 (omega (arith, h.4, h.6))
    ∙ ap (λ k. Ok (Some (k, length h.0))) h.4 ∙ ap (λ k. Ok (Some (n, k))) h.5

pub cut_is : (bytes : List ℕ) → IsBytes bytes → integer_at bytes ≡ Ok None → IsCut bytes
cut_is bytes fits e =
    let f = integer_cut bytes e in
    let v : value (spelling_front bytes) ≡ value bytes = ap value (spelling_whole bytes f.1) in
    (omega (arith, v, f.0), (0 ∷ [], omega arith, spelling_goes_on bytes fits f.1))

pub is_cut : (bytes : List ℕ) → IsCut bytes → integer_at bytes ≡ Ok None
unfolding integer_at
is_cut bytes h =
    let ends = spelling_is_cut bytes h.1.0 h.1.1 h.1.2 in
    let v : value (spelling_front bytes) ≡ value bytes = ap value (spelling_whole bytes ends) in
    let over : leb (2 ^ 64) (value (spelling_front bytes)) ≡ false =
    lt-leb _ _ (omega (arith, v, h.0)) in
    rw (over, ends) refl

pub over_is : (bytes : List ℕ) (x : IntTooLarge) → IsBytes bytes → integer_at bytes ≡ Err x
    → IsTooLarge bytes
over_is bytes x fits e =
    let o = integer_over bytes x e in
    let r = spelling_parts bytes in
    elim (cases_Bool (spelling_ends bytes)) [
      | inl ends ↦ (
        spelling_front bytes,
        [],
        r.0,
        r.1,
        subst IsSpelling (sym (append-nil (spelling_front bytes)))
            (spelling_is bytes fits ends),
        o,
      )
      | inr ends ↦
          let whole = spelling_whole bytes ends in (
            bytes,
            0 ∷ [],
            [],
            sym (append-nil bytes),
            spelling_goes_on bytes fits ends,
            let v : value (spelling_front bytes) ≡ value bytes = ap value whole in
                omega (arith, v, o),
          )
    ]

pub is_over : (bytes : List ℕ) → IsTooLarge bytes → integer_at bytes ≡ Err (record {})
unfolding integer_at
is_over bytes h =
    let f : value (spelling_front h.0) ≡ value h.0 = ap value (front_is_whole h.0 h.1 h.4) in
    let b : value (spelling_front bytes) ≡ value (spelling_front (h.0 ++ h.2)) =
    ap (λ (bs : List ℕ). value (spelling_front bs)) h.3 in
    let over : leb (2 ^ 64) (value (spelling_front bytes)) ≡ true =
    le-leb _ _ (omega (arith, f, b, spelling_grows h.0 h.2, h.5)) in
    rw over refl

-- ---- of a result

pub err_is : (r : Result (Option (ℕ × ℕ)) IntTooLarge) → IsErr r → (x : IntTooLarge) × (r ≡ Err x)
err_is (Ok found) e = absurd cc
err_is (Err x) e = (x, refl)
