-- How far the loop has come that appends the bytes of a spelling after the first.
use Rattle.std.proofs.Common.{◌≡◌, ℕ, zero, suc, ◌+◌, ◌-◌, ◌/◌, ◌%◌, ◌<◌, ◌≤◌, true, false, ltb}
use Rattle.std.proofs.Common.{List, [], ◌∷◌, ◌++◌, length, take, refl, sym, ap, ◌∙◌, append_assoc}
use Rattle.std.proofs.Common.{length-append, arith}
use Rattle.std.proofs.lemmas.Bool.{le-ltb, lt-ltb}
use Rattle.std.proofs.lemmas.List.{take-append-le}
use Rattle.peers_msg.specs.Spelling.{integer_spelling, tail_spelling}

-- what is appended, with the spelling of what is left, is the spelling of all
pub record IsAppended (old : List ℕ) (all : ℕ) (out : List ℕ) (left : ℕ) : Type 0 where
  pub spelled : (most : ℕ) → all ≤ most → (fewer : ℕ) × (left ≤ fewer)
      × (out ++ tail_spelling fewer left ≡ old ++ tail_spelling most all)
  pub begins : take (length old) out ≡ old
  pub longer : length old ≤ length out

pub appended_none : (old : List ℕ) (all : ℕ) → take (length old) old ≡ old
    → IsAppended old all old all
appended_none old all same = record {
  spelled = λ most le. (most, le, refl);
  begins =
      same;
  longer = omega arith;
}

tail_more : (most left : ℕ) → left ≤ most → 128 ≤ left → (fewer : ℕ) × ((left - 128) / 128 ≤ fewer)
    × (tail_spelling most left ≡ (128 + (left - 128) % 128) ∷ tail_spelling fewer
    ((left - 128) / 128))
unfolding tail_spelling
tail_more zero left le high = absurd (omega arith)
tail_more (suc most) left le high =
    let b : ltb left 128 ≡ false = le-ltb left 128 high in
    (most, omega arith, rw b refl)

tail_last : (most left : ℕ) → left < 128 → tail_spelling most left ≡ left ∷ []
unfolding tail_spelling
tail_last zero left low = refl
tail_last (suc most) left low =
    let b : ltb left 128 ≡ true = lt-ltb left 128 low in
    rw b refl

pub begins_more : (old out : List ℕ) (byte : ℕ) → take (length old) out ≡ old
    → length old ≤ length out → take (length old) (out ++ byte ∷ []) ≡ old
begins_more old out byte begins longer = take-append-le (length old) out (byte ∷ []) longer ∙ begins

pub appended_more : (old : List ℕ) (all : ℕ) (out : List ℕ) (left : ℕ) → IsAppended old all out left
    → 128 ≤ left → IsAppended old all (out ++ (128 + (left - 128) % 128) ∷ []) ((left - 128) / 128)
appended_more old all out left h high =
    record {
      spelled = λ most le.
          let s = h.spelled most le in
          let t = tail_more s.0 left s.1 high in (
            t.0,
            t.1,
            append_assoc out ((128 + (left - 128) % 128) ∷ [])
                (tail_spelling t.0 ((left - 128) / 128)) ∙ ap (λ (bs : List ℕ). out ++ bs) (sym t.2)
                ∙ s.2,
          );
      begins = begins_more old out (128 + (left - 128) % 128) h.begins h.longer;
      longer = omega (arith, h.longer, length-append out ((128 + (left - 128) % 128) ∷ []));
    }

pub appended_all : (old : List ℕ) (all : ℕ) (out : List ℕ) (left : ℕ) → IsAppended old all out left
    → left < 128 → (most : ℕ) → all ≤ most → out ++ left ∷ [] ≡ old ++ tail_spelling most all
appended_all old all out left h low most le =
    let s = h.spelled most le in
    ap (λ (bs : List ℕ). out ++ bs) (sym (tail_last s.0 left low)) ∙ s.2

pub long_spelling : (old out new : List ℕ) (n : ℕ) → 240 ≤ n
    → out ≡ old ++ (240 + (n - 240) % 16) ∷ []
    → ((most : ℕ) → (n - 240) / 16 ≤ most → new ≡ out ++ tail_spelling most ((n - 240) / 16))
    → new ≡ old ++ integer_spelling n
unfolding integer_spelling
long_spelling old out new n high first rest =
    let b : ltb n 240 ≡ false = le-ltb n 240 high in
    rw b (rest n (omega arith) ∙ ap (λ (bs : List ℕ). bs ++ tail_spelling n ((n - 240) / 16)) first
    ∙ append_assoc old ((240 + (n - 240) % 16) ∷ []) (tail_spelling n ((n - 240) / 16)))

-- seven pieces, appended one after the other
pub seven_appended : (o a b c d e f g p q r s t u v : List ℕ) → a ≡ o ++ p → b ≡ a ++ q → c ≡ b ++ r
    → d ≡ c ++ s → e ≡ d ++ t → f ≡ e ++ u → g ≡ f ++ v → g ≡ o ++ (p ++ q ++ r ++ s ++ t ++ u ++ v)
seven_appended o a b c d e f g p q r s t u v h1 h2 h3 h4 h5 h6 h7 =
    rw (h7, h6, h5, h4, h3, h2, h1) (simp append_assoc)
