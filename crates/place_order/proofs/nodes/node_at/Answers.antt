use Rattle.std.proofs.Common.{ap, sym, ◌∙◌}
use Rattle.std.proofs.lemmas.Option.{unwrap_or-slice_get}
use Rattle.std.specs.Option.{option_copied}
use Rattle.std.specs.Prelude.{unwrap_or}
use Rattle.place_order.specs.Trees.{blank}
use Rattle.place_order.proofs.nodes.node_at.Goals as goal

pub returns-in-None : goal.returns-in-None
returns-in-None c =
    ap (λ o. unwrap_or o blank) (sym (ap option_copied c.in-None.is) ∙ c.get.ensures)
    ∙ unwrap_or-slice_get c.args.nodes.now.items c.args.place blank
