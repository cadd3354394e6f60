-- A line without the CRs at its end.
use Rattle.std.proofs.Common.{◌≡◌, ℕ, Bool, true, false, cond, List, [], ◌∷◌}
use Rattle.std.proofs.Common.{◌++◌, refl, ap, sym, ◌∙◌, eqb, inl, inr, ◌&&◌, ◌≢◌}
use Rattle.std.proofs.lemmas.Bool.{cases_Bool, eqb-true}
use Rattle.std.proofs.lemmas.List.Folds.{list_all-append}
use Rattle.std.specs.List.{list_all}
use Rattle.show_clear.specs.Parse.{without_returns}

-- whether there are only CRs
abbrev pub are_returns : List ℕ → Bool
are_returns line = list_all (λ b. eqb b 13) line

abbrev left_by : Bool → ℕ → List ℕ → List ℕ
left_by all byte bytes = cond all [] (byte ∷ without_returns bytes)

-- CRs behind a line are left out
pub returns_behind : (front rest : List ℕ) → are_returns rest ≡ true
    → without_returns (front ++ rest) ≡ without_returns front
returns_behind [] [] all = refl
returns_behind [] (byte ∷ rest) all = ap (λ b. left_by b byte rest) all
returns_behind (byte ∷ front) rest all =
    let both : are_returns (byte ∷ (front ++ rest)) ≡ are_returns (byte ∷ front) =
    list_all-append (λ b. eqb b 13) (byte ∷ front) rest
    ∙ rw all (and_true (are_returns (byte ∷ front))) in
    ap (λ b. left_by b byte (front ++ rest)) both
    ∙ ap (λ bytes. cond (are_returns (byte ∷ front)) [] (byte ∷ bytes))
    (returns_behind front rest all)
  where
    and_true : (b : Bool) → (b && true) ≡ b
    and_true true = refl
    and_true false = refl

-- what stands before another byte stays
pub returns_before : (front rest : List ℕ) → are_returns rest ≡ false
    → without_returns (front ++ rest) ≡ front ++ without_returns rest
returns_before [] rest some = refl
returns_before (byte ∷ front) rest some =
    let both : are_returns (byte ∷ (front ++ rest)) ≡ false =
    list_all-append (λ b. eqb b 13) (byte ∷ front) rest
    ∙ rw some (and_false (are_returns (byte ∷ front))) in
    ap (λ b. left_by b byte (front ++ rest)) both
    ∙ ap (λ bytes. byte ∷ bytes) (returns_before front rest some)
  where
    and_false : (b : Bool) → (b && false) ≡ false
    and_false true = refl
    and_false false = refl

-- a line is empty, or has a last byte
ends : (byte : ℕ) (bytes : List ℕ) → (front : List ℕ) × (last : ℕ)
    × (byte ∷ bytes ≡ front ++ last ∷ [])
ends byte [] = ([], byte, refl)
ends byte (next ∷ bytes) =
    let more = ends next bytes in (byte ∷ more.0, more.1, ap (λ b. byte ∷ b) more.2)

-- a line that ends with a CR
pub one_return : (front line : List ℕ) → line ≡ front ++ 13 ∷ []
    → without_returns front ≡ without_returns line
one_return front line is = sym (ap without_returns is ∙ returns_behind front (13 ∷ []) refl)

-- a line that doesn't
pub no_return : (line : List ℕ) → ((front : List ℕ) → line ≢ front ++ 13 ∷ [])
    → without_returns line ≡ line
no_return [] none = refl
no_return (byte ∷ bytes) none =
    let end = ends byte bytes in
    elim (cases_Bool (eqb end.1 13)) [
      | inl same ↦
          absurd (none end.0 (end.2 ∙ ap (λ b. end.0 ++ b ∷ []) (eqb-true end.1 13 same)))
      | inr other ↦
          let some : are_returns (end.1 ∷ []) ≡ false = rw other refl in
          let alone : without_returns (end.1 ∷ []) ≡ end.1 ∷ [] = rw other refl in
          ap without_returns end.2 ∙ (returns_before end.0 (end.1 ∷ []) some
          ∙ (ap (λ b. end.0 ++ b) alone ∙ sym end.2))
    ]
