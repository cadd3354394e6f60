use Rattle.std.proofs.Common.{ap, sym, ◌∙◌}
use Rattle.std.proofs.lemmas.Option.{unwrap_or-slice_get}
use Rattle.std.specs.Option.{option_copied}
use Rattle.std.specs.Prelude.{unwrap_or}
use Rattle.place_order.proofs.chain.next_of.Goals as goal

pub returns-in-None : goal.returns-in-None
returns-in-None c =
    ap (λ o. unwrap_or o 4294967295) (sym (ap option_copied c.in-None.is) ∙ c.get.ensures)
    ∙ unwrap_or-slice_get c.args.nexts.now.items c.args.place 4294967295
