use Rattle.std.proofs.Common.{◌≡◌, ◌∙◌, ap, Bool, [], List, None, Some}
use Rattle.std.specs.Prelude.{slice_index_or}
use Rattle.pushed_keys.specs.Rules.{change_of, put_after}
use Rattle.pushed_keys.specs.declared.change.Change.TheVariants.{TakeAway}
use Rattle.pushed_keys.specs.declared.told.Mark.{Mark}
use Rattle.telling.specs.Telling.{table_at, told_after, turn_at}
use Rattle.turn_laws.specs.Keys.{put_of}
use Rattle.turn_laws.proofs.Changes.{mark_put, marked_put, not_among, taken, unmarked}
use Rattle.turn_laws.proofs.Tables.{has_there, kept_behind, put_there}
use Rattle.turn_laws.proofs.laws.a_key_that_left_is_taken_away.Goals as goal

pub returns : goal.returns
returns c = record {
  taken = λ pushed sets now told place table key is s k loose left there.
      let marks : List Mark = (table_at told place).marks in
      let put = marked_put table now key marks there in
      has_there pushed sets now told place table key TakeAway is s k
      ((λ i. change_of table (turn_at now told)
      (not_among key (slice_index_or sets place []) left i)
      (mark_put key put.0 marks (k.in_order place) put.1 i))
      ∙ taken table (turn_at now told) put.0 loose put.2);
  gone = λ pushed sets now told place table key put is s k loose left there.
      let marks : List Mark = (table_at told place).marks in
      let none : put_of key (table_at (told_after pushed sets now told) place).marks ≡ None =
      put_there pushed sets now told place table key is s k
      ∙ ap (λ (b : Bool). put_after table (turn_at now told) b (put_of key marks))
      (not_among key (slice_index_or sets place []) left)
      ∙ unmarked table (turn_at now told) (put_of key marks) loose in
      let some : put_of key (table_at (told_after pushed sets now told) place).marks ≡ Some put =
      mark_put key put (table_at (told_after pushed sets now told) place).marks
      ((kept_behind pushed sets now told s k).in_order place) there in
      absurd (cc);
}
