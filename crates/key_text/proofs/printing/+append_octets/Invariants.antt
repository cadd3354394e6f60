use Rattle.std.proofs.Common.{length}
use Rattle.key_text.proofs.printing.+append_octets.Given as goal

abbrev pub decreases-append_octets : goal.decreases-append_octets
decreases-append_octets l = length l.key.now
