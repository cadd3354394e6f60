use Rattle.std.proofs.Common.{◌≡◌, ◌-◌, take, length}
use Rattle.update_values.specs.Values.{numbers_at}
use Rattle.update_values.proofs.PlanLemmas.{behind_numbers}
use Rattle.update_values.proofs.plan.read_numbers.Given as goal

abbrev pub invariant-loop-number : goal.invariant-loop-number
invariant-loop-number l =
    behind_numbers (take l.number-index l.numbers)
    (numbers_at (length l.fn.numbers - l.number-index) l.rest)
    ≡ numbers_at (length l.fn.numbers) l.bytes
