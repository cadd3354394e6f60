use Rattle.std.proofs.Common.{arith}
use Rattle.std.specs.List.Sorted.{IsStrictlySortedBy}
use Rattle.turn_laws.specs.Keys.{IsKept}
use Rattle.telling.specs.Telling.{untold}
use Rattle.turn_laws.proofs.Tables.{kept_behind}
use Rattle.turn_laws.proofs.laws.what_is_told_stays_in_order.Goals as goal

none_told : IsKept untold
unfolding IsStrictlySortedBy
none_told = record { in_order = λ place. tt; short = λ place. tt; ids = λ place. omega arith }

pub returns : goal.returns
returns c = record {
  first = none_told;
  asked = λ told k. record { in_order = k.in_order; short = k.short; ids = k.ids };
  turned = kept_behind;
}
