use Rattle.hub.proofs.Showing.{shows_posted}
use Rattle.hub.proofs.laws.a_look_shows_what_was_posted.Goals as goal

pub returns : goal.returns
returns c = λ pass after whats receipt seen learned looked book posts learns later is.
    shows_posted pass after whats receipt seen learned looked book posts learns later is
