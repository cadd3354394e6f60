-- Places that neither a word nor the map leads to.
use Rattle.std.proofs.Common.{◌≡◌, ℕ, zero, suc, List, [], ◌∷◌, ◌++◌, length}
use Rattle.std.proofs.Common.{Some, Bool, true, false, ap, sym, ◌∙◌, subst, arith}
use Rattle.std.proofs.Common.{slice_get, cond, not, nat_eq}
use Rattle.std.proofs.lemmas.Bool.{ne_eqb}
use Rattle.std.proofs.lemmas.Option.{none-some, same_Some, slice_get_within}
use Rattle.std.specs.List.{filter}
use Rattle.std.specs.Prelude.{◌≢◌}
use Rattle.segments.proofs.Lists.{slice_get-append_left, slice_get-append_right}
use Rattle.place_index.specs.Loose.{IsLoose}

pub loose_pushed : (xs : List ℕ) (at q : ℕ) → IsLoose xs q → IsLoose (xs ++ at ∷ []) q
loose_pushed xs at q there =
    record {
      index = there.index;
      is = slice_get-append_left xs (at ∷ []) there.index
          (slice_get_within xs there.index q there.is) ∙ there.is;
    }

pub loose_last : (xs : List ℕ) (at : ℕ) → IsLoose (xs ++ at ∷ []) at
loose_last xs at =
    record {
      index = length xs;
      is = slice_get-append_right xs (at ∷ []) (length xs) 0 (omega arith);
    }

behind : (xs : List ℕ) (x q : ℕ) → IsLoose xs q → IsLoose (x ∷ xs) q
behind xs x q there =
    record {
      index = suc there.index;
      is = there.is;
    }

loose_kept_at : (test : ℕ → Bool) (xs : List ℕ) (index q : ℕ) → slice_get xs index ≡ Some q
    → test q ≡ true → IsLoose (filter test xs) q
loose_kept_at test [] index q is passes = absurd (none-some q is)
loose_kept_at test (x ∷ xs) zero q is passes =
    let e : test x ≡ true = ap test (same_Some x q is) ∙ passes in
    rw e (record {
      index = 0;
      is = is;
    })
loose_kept_at test (x ∷ xs) (suc index) q is passes =
    let later : IsLoose (filter test xs) q = loose_kept_at test xs index q is passes in
    elim (test x) as (λ b. IsLoose (cond b (x ∷ filter test xs) (filter test xs)) q) [
      | true ↦ behind (filter test xs) x q later
      | false ↦ later
    ]

pub loose_kept : (test : ℕ → Bool) (xs ys : List ℕ) (q : ℕ) → ys ≡ filter test xs
    → test q ≡ true → IsLoose xs q → IsLoose ys q
loose_kept test xs ys q is passes there =
    subst (λ l. IsLoose l q) (sym is) (loose_kept_at test xs there.index q there.is passes)

pub unlike : (q at : ℕ) → q ≢ at → not (nat_eq q at) ≡ true
unlike q at other = ap not (ne_eqb q at other)
