use Rattle.std.proofs.Common.{subst}
use Rattle.std.proofs.lemmas.Result.{on_ok_weaker}
use Rattle.haproxy_import.specs.Found.{Reads}
use Rattle.haproxy_import.proofs.whole.confirm.Goals as goal

pub returns-in-Ok : goal.returns-in-Ok
unfolding Reads
returns-in-Ok c = on_ok_weaker c.compare.result (λ same. subst (Reads c.args.written.now) same
    (c.in-Ok.ensures.written, c.in-Ok.ensures.faultless)) c.compare.ensures
