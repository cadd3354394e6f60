use Rattle.std.proofs.Common.{sym, subst, List, ℕ}
use Rattle.std.specs.Prelude.{slice_index_or, []}
use Rattle.telling.specs.Among.{IsAmong}
use Rattle.telling.specs.Telling.{table_at, turn_at}
use Rattle.telling.proofs.Brought.{set_from, set_held, told_at}
use Rattle.telling.proofs.laws.the_set_is_held.Goals as goal

pub returns : goal.returns
returns c = record {
  told = λ pushed sets now told place table key is lives there.
      subst (λ (keys : List (List ℕ)). IsAmong key keys)
      (sym (told_at pushed sets now told place table is))
      (set_held table (turn_at now told) (slice_index_or sets place [])
      (table_at told place).marks key lives there);
  further = λ pushed sets now told place table key is lives there.
      set_from table (turn_at now told) (slice_index_or sets place [])
      (table_at told place).marks key lives
      (subst (λ (keys : List (List ℕ)). IsAmong key keys)
      (told_at pushed sets now told place table is) there);
}
