use Rattle.hub.proofs.Allowing.{apart_from_both, may_post}
use Rattle.hub.proofs.laws.what_may_be_posted.Goals as goal

pub returns : goal.returns
returns c = λ config what. (
  λ may. let apart = apart_from_both config what may in (may.fits, apart.0, apart.1),
  λ posts. may_post config what posts.0 posts.1 posts.2,
)
