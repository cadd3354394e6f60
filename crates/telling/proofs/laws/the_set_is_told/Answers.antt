use Rattle.std.proofs.Common.{◌∙◌}
use Rattle.std.specs.Prelude.{slice_index_or, []}
use Rattle.telling.specs.Telling.{table_at, turn_at}
use Rattle.telling.proofs.Brought.{set_told, told_at}
use Rattle.telling.proofs.laws.the_set_is_told.Goals as goal

pub returns : goal.returns
returns c = λ pushed sets now told place table is loose lives.
    told_at pushed sets now told place table is
    ∙ set_told table (turn_at now told) (slice_index_or sets place []) (table_at told place).marks
    loose lives
