use Rattle.std.proofs.Common.{◌∙◌}
use Rattle.session_core.proofs.PieceLemmas.{quiet_said}
use Rattle.session_core.proofs.stage.converse.Goals as goal

pub returns-in-None-clause-ok : goal.returns-in-None-clause-ok
returns-in-None-clause-ok c =
    let read = rw c.in-None.is at c.in_ok-given.ensures.reading in
    quiet_said c.args.tables.now _ _ _ _ _ c.args.facts c.args.replies.items _ _ read.0
    c.requires read.1 (c.len-split.ensures ∙ c.args.replies.ok.0) c.new.ensures
