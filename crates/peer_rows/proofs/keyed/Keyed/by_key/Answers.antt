use Rattle.std.proofs.Common.{ap, ◌∙◌}
use Rattle.peer_rows.specs.Table.{rows_in}
use Rattle.peer_rows.proofs.keyed.Keyed.by_key.Goals as goal

pub returns : goal.returns
returns c = rw (← c.self.view_is) (c.new.ensures ∙ ap rows_in c.in_ok-keys.ensures)
