use Rattle.session_core.proofs.track.Track.take_up.Goals as goal

pub returns-clause-step : goal.returns-clause-step
returns-clause-step c =
    λ facts.
    let is = rw (c.keep.ensures, c.followed_of.ensures) at (c.in_ok-heard.ensures.step facts) in
    rw c.plan_now.ensures.same is
