use Rattle.std.proofs.Common.{◌∙◌, ap, Bool, []}
use Rattle.std.specs.Prelude.{slice_index_or}
use Rattle.pushed_keys.specs.Rules.{change_of}
use Rattle.pushed_keys.specs.declared.change.Change.TheVariants.{Put}
use Rattle.telling.specs.Telling.{table_at, turn_at}
use Rattle.turn_laws.specs.Keys.{put_of}
use Rattle.turn_laws.proofs.Changes.{among_in, put_anew}
use Rattle.turn_laws.proofs.Tables.{has_there}
use Rattle.turn_laws.proofs.laws.asked_for_all_every_key_is_put.Goals as goal

pub returns : goal.returns
returns c = λ pushed sets now told place table key is s k anew there.
    has_there pushed sets now told place table key Put is s k
    (ap (λ (b : Bool). change_of table (turn_at now told) b
    (put_of key (table_at told place).marks))
    (among_in key (slice_index_or sets place []) there)
    ∙ put_anew table (turn_at now told) (put_of key (table_at told place).marks) anew)
