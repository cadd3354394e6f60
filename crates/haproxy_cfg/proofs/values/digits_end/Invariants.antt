use Rattle.std.proofs.Common.{◌≡◌, ◌+◌, ◌≤◌, length}
use Rattle.haproxy_cfg.specs.Values.{digits_end}
use Rattle.haproxy_cfg.proofs.values.digits_end.Given as goal

abbrev pub invariant-digits : goal.invariant-digits
invariant-digits l = record {
  within : length l.left ≤ length l.word;
  value : digits_end l.word + length l.left ≡ digits_end l.left + length l.word;
}

abbrev pub decreases-digits : goal.decreases-digits
decreases-digits l = length l.left
