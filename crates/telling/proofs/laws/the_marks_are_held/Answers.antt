use Rattle.std.proofs.Common.{sym, subst, List}
use Rattle.std.specs.Prelude.{slice_index_or, []}
use Rattle.pushed_keys.specs.Moves.{marked}
use Rattle.pushed_keys.specs.declared.told.Mark.{Mark}
use Rattle.telling.specs.Among.{IsAmong}
use Rattle.telling.specs.Telling.{table_at, turn_at}
use Rattle.telling.proofs.Brought.{marks_at}
use Rattle.telling.proofs.Marked.{all_marked, marked_from}
use Rattle.telling.proofs.laws.the_marks_are_held.Goals as goal

pub returns : goal.returns
returns c = record {
  set = λ pushed sets now told place table key is there.
      subst (λ (marks : List Mark). IsAmong key (marked marks))
      (sym (marks_at pushed sets now told place table is))
      (all_marked table (turn_at now told) (slice_index_or sets place [])
      (table_at told place).marks key there);
  further = λ pushed sets now told place table key is there.
      marked_from table (turn_at now told) (slice_index_or sets place [])
      (table_at told place).marks key
      (subst (λ (marks : List Mark). IsAmong key (marked marks))
      (marks_at pushed sets now told place table is) there);
}
