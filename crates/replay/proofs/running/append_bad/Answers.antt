use Rattle.std.proofs.Common.{◌∙◌, append_assoc}
use Rattle.replay.proofs.running.append_bad.Goals as goal

pub returns-clause-text : goal.returns-clause-text
returns-clause-text c =
    c.in_ok-append_text-2.ensures.ok
    ∙ rw (c.in_ok-append_number.ensures.ok, c.in_ok-append_text.ensures.ok) (simp append_assoc)
