use Rattle.std.proofs.Common.{◌≡◌, ◌-◌, List, ℕ, [], ◌∷◌, Some, None, length, ap, sym, ◌∙◌, refl}
use Rattle.std.proofs.Common.{slice_get, arith}
use Rattle.std.proofs.lemmas.Option.{none-some, slice_get-get_or}
use Rattle.std.specs.Prelude.{slice_index_or}
use Rattle.place_plans.proofs.buckets.Buckets.first.Goals as goal

last_none : (xs : List ℕ) → slice_get xs (length xs - 1) ≡ None → xs ≡ []
last_none [] e = refl
last_none (x ∷ xs) e =
    absurd (none-some (slice_index_or (x ∷ xs) (length (x ∷ xs) - 1) 0)
    (sym e ∙ slice_get-get_or (x ∷ xs) (length (x ∷ xs) - 1) 0 (omega arith)))

pub returns-in_err-last-clause-none : goal.returns-in_err-last-clause-none
returns-in_err-last-clause-none c =
    absurd (c.self.invariant c.in_ok-at.at.now (c.in_ok-at.ensures.value
    ∙ ap Some (last_none c.in_ok-at.bucket.now (sym c.last.ensures ∙ c.in_err-last.was))))
