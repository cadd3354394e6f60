use Rattle.std.proofs.Common.{None, sym, ap, ◌∙◌}
use Rattle.std.proofs.lemmas.Option.{unwrap_or-slice_get}
use Rattle.std.specs.Option.{option_copied}
use Rattle.std.specs.Prelude.{unwrap_or}
use Rattle.place_plans.proofs.all_links.short_at.Goals as goal

pub returns-in-None-clause-value : goal.returns-in-None-clause-value
returns-in-None-clause-value c =
    ap (λ o. unwrap_or o None) (sym (ap option_copied c.in-None.is) ∙ c.get.ensures)
    ∙ unwrap_or-slice_get c.args.links.now.items c.args.place None
