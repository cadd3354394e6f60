-- Marks of hashes, as keys come to places and leave them.
use Rattle.std.proofs.Common.{◌≡◌, ◌≤◌, ℕ, Bool, true, List, length, Some}
use Rattle.std.proofs.Common.{None, Ok, Result, sym, ap}
use Rattle.std.proofs.Common.{◌∙◌, subst, inl, inr}
use Rattle.std.proofs.lemmas.Bool.{cases_eq}
use Rattle.std.proofs.lemmas.Option.{same_Some}
use Rattle.std.specs.Prelude.{IfOk}
use Rattle.place_index.specs.Hash.{hash_of_bytes}
use Rattle.place_index.specs.Places.{key_at, laid, revalued}
use Rattle.place_index.proofs.Leading.{key_at-revalued, laid_other, laid_same}
use Rattle.standing_filters.specs.Marked.{AreMarked, is_marked}
use Rattle.standing_filters.specs.Placed.{VerdictPlaces}
use Rattle.standing_filters.specs.declared.judging.Verdict.{Verdict}
use Rattle.standing_filters.proofs.Placing.{key_of}

-- a key comes
pub marked_laid : (old new : List Bool) (places : VerdictPlaces) (at : ℕ) (key : List ℕ)
    (verdict : Verdict) → at ≤ length places → is_marked new (hash_of_bytes key) ≡ true
    → ((hash : ℕ) → is_marked old hash ≡ true → is_marked new hash ≡ true)
    → AreMarked old places → AreMarked new (laid places at (Some (key, verdict)))
marked_laid old new places at key verdict within own_mark others are =
    λ p k own. elim (cases_eq p at) [
      | inl same ↦
          let here : key ≡ k =
          same_Some key k
          (sym (ap key_of (laid_same places at (Some (key, verdict)) None within))
          ∙ ap (λ (q : ℕ). key_at (laid places at (Some (key, verdict))) q) (sym same) ∙ own) in
          subst (λ (l : List ℕ). is_marked new (hash_of_bytes l) ≡ true) here own_mark
      | inr other ↦
          others (hash_of_bytes k) (are p k
          (sym (ap key_of (laid_other places at p (Some (key, verdict)) None within other)) ∙ own))
    ]

-- a verdict takes another's place
pub marked_revalued : (marks : List Bool) (places : VerdictPlaces) (at : ℕ) (verdict : Verdict)
    → AreMarked marks places → AreMarked marks (revalued places at verdict)
marked_revalued marks places at verdict are =
    λ p k own. are p k (sym (key_at-revalued places at verdict p) ∙ own)

-- what an answer that is there fulfils
pub if_ok_at : {A E : Type 0} (P : A → Type 0) (result : Result A E) (answer : A)
    → result ≡ Ok answer → IfOk result P → P answer
if_ok_at P result answer is fulfils = subst (λ r. IfOk r P) is fulfils
