use Rattle.turn_laws.proofs.Tables.{put_there, tells_there}
use Rattle.turn_laws.proofs.laws.a_table_is_told.Goals as goal

pub returns : goal.returns
returns c = record {
  updates = λ pushed sets now told place table is s k.
      tells_there pushed sets now told place table is s k;
  marks = λ pushed sets now told place table key is s k.
      put_there pushed sets now told place table key is s k;
}
