use Rattle.std.proofs.Common.{◌∙◌, ap, List}
use Rattle.std.specs.Prelude.{slice_index_or, []}
use Rattle.pushed_keys.specs.Moves.{marked, set_of}
use Rattle.pushed_keys.specs.declared.told.Mark.{Mark}
use Rattle.telling.specs.Telling.{table_at, turn_at}
use Rattle.telling.proofs.Brought.{marks_at}
use Rattle.telling.proofs.Kept.{set_kept, set_marked}
use Rattle.telling.proofs.laws.the_set_is_marked.Goals as goal

pub returns : goal.returns
returns c = record {
  set = λ pushed sets now told place table is.
      ap (λ (marks : List Mark). set_of marks) (marks_at pushed sets now told place table is)
      ∙ set_kept table (turn_at now told) (slice_index_or sets place [])
      (table_at told place).marks;
  all = λ pushed sets now told place table is loose.
      ap (λ (marks : List Mark). marked marks) (marks_at pushed sets now told place table is)
      ∙ set_marked table (turn_at now told) (slice_index_or sets place [])
      (table_at told place).marks loose;
}
