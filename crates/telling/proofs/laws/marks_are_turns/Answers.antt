use Rattle.std.proofs.Common.{◌≡◌, ◌⊎◌, sym, subst, List, ℕ, [], inl, inr, refl}
use Rattle.std.specs.Prelude.{slice_index_or}
use Rattle.pushed_keys.specs.declared.told.Mark.{Mark}
use Rattle.telling.specs.Among.{AllMarks, IsAmong, IsMarkOf}
use Rattle.telling.specs.Telling.{table_at, turn_at}
use Rattle.telling.proofs.Brought.{marks_at, set_marks}
use Rattle.telling.proofs.Among.{all_weaker, each_mark}
use Rattle.telling.proofs.laws.marks_are_turns.Goals as goal

pub returns : goal.returns
returns c = λ pushed sets now told place table is.
    let old : List Mark = (table_at told place).marks in
    let set : List (List ℕ) = slice_index_or sets place [] in
    let Put : List ℕ → ℕ → Type 0 = λ key put. (IsAmong key set × (put ≡ now))
    ⊎ IsMarkOf old key put in
    subst (λ (marks : List Mark). AllMarks Put marks)
    (sym (marks_at pushed sets now told place table is))
    (set_marks Put table (turn_at now told) set old (λ key there. inl (there, refl))
    (all_weaker (IsMarkOf old) Put (λ key put h. inr h) old (each_mark old)))
