use Rattle.std.proofs.Common.{◌≡◌, ◌∙◌, ap, Bool, [], ℕ, List, Option, None, Some, refl}
use Rattle.std.specs.Prelude.{slice_index_or}
use Rattle.pushed_keys.specs.Rules.{change_of, put_after}
use Rattle.pushed_keys.specs.declared.change.Change.TheVariants.{Put}
use Rattle.pushed_keys.specs.declared.told.Mark.{Mark}
use Rattle.telling.specs.Among.{IsMarkOf}
use Rattle.telling.specs.Telling.{table_at, told_after, turn_at}
use Rattle.turn_laws.specs.Keys.{put_of}
use Rattle.turn_laws.proofs.Changes.{among_in, fresh, mark_put, put_due, put_mark, put_new}
use Rattle.turn_laws.proofs.Tables.{has_there, put_there}
use Rattle.turn_laws.proofs.laws.no_refresh_is_late.Goals as goal

-- a key without a mark was never put
never : (key : List ℕ) (marks : List Mark) (o : Option ℕ) → put_of key marks ≡ o
    → ((put : ℕ) → IsMarkOf marks key put → ⊥) → o ≡ None
never key marks None e h = refl
never key marks (Some put) e h = absurd (h put (put_mark key put marks e))

pub returns : goal.returns
returns c = record {
  new = λ pushed sets now told place table key is s k there none.
      let marks : List Mark = (table_at told place).marks in
      has_there pushed sets now told place table key Put is s k
      ((λ i. change_of table (turn_at now told)
      (among_in key (slice_index_or sets place []) there i)
      (never key marks (put_of key marks) refl none i)) ∙ put_new table (turn_at now told));
  due = λ pushed sets now told place table key put is s k there mark late.
      let marks : List Mark = (table_at told place).marks in
      has_there pushed sets now told place table key Put is s k
      ((λ i. change_of table (turn_at now told)
      (among_in key (slice_index_or sets place []) there i)
      (mark_put key put marks (k.in_order place) mark i))
      ∙ put_due table (turn_at now told) put late);
  behind = λ pushed sets now told place table key is s k there.
      let marks : List Mark = (table_at told place).marks in
      let put = fresh table (turn_at now told) (put_of key marks) in (
        put.0,
        put_mark key put.0 (table_at (told_after pushed sets now told) place).marks
            (put_there pushed sets now told place table key is s k
            ∙ ap (λ (b : Bool). put_after table (turn_at now told) b (put_of key marks))
            (among_in key (slice_index_or sets place []) there) ∙ put.1),
        put.2,
      );
}
