use Rattle.std.proofs.Common.{◌∙◌, sym}
use Rattle.haproxy_import.proofs.Alike.{parts_same}
use Rattle.haproxy_import.proofs.same.same_config.Goals as goal

pub returns : goal.returns
returns c = λ e. parts_same _ _ (sym c.same_parts.ensures ∙ e)
