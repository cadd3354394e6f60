-- Marks among marks.
use Rattle.std.proofs.Common.{ℕ, List, [], ◌∷◌, inl, inr, refl}
use Rattle.pushed_keys.specs.declared.told.Mark.{Mark}
use Rattle.telling.specs.Among.{AllMarks, IsMarkOf}

pub all_weaker : (P Q : List ℕ → ℕ → Type 0) → ((key : List ℕ) (put : ℕ) → P key put → Q key put)
    → (marks : List Mark) → AllMarks P marks → AllMarks Q marks
all_weaker P Q f [] h = tt
all_weaker P Q f (mark ∷ marks) h = (f mark.key mark.put h.0, all_weaker P Q f marks h.1)

-- each mark is one of them
pub each_mark : (marks : List Mark) → AllMarks (IsMarkOf marks) marks
each_mark [] = tt
each_mark (mark ∷ marks) = (
  inl (refl, refl),
  all_weaker (IsMarkOf marks) (IsMarkOf (mark ∷ marks)) (λ key put h. inr h)
      marks (each_mark marks),
)
