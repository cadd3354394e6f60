use Rattle.std.proofs.Common.{IfOk, Result, Ok, Err}
use Rattle.session_core.specs.Tracked.{step_of}
use Rattle.session_core.proofs.track.Track.step.Goals as goal

if_ok : {A E : Type 0} {P Q : A → Type 0} (r : Result A E) → IfOk r P → ((x : A) → P x → Q x)
    → IfOk r Q
if_ok (Ok x) holds more = more x holds
if_ok (Err e) holds more = tt

pub returns-in-Define-clause-step : goal.returns-in-Define-clause-step
unfolding step_of
returns-in-Define-clause-step c =
    rw c.in-Define.is (if_ok c.take_up.result c.take_up.ensures.step
    (λ heard holds. holds c.args.facts.now))
