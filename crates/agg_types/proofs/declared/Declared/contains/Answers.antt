use Rattle.std.proofs.Common.{◌∙◌, ap, is_some}
use Rattle.std.specs.List.{list_any}
use Rattle.std.specs.Str.{bytes_eq}
use Rattle.agg_types.proofs.Naming.{list_any-position}
use Rattle.agg_types.proofs.declared.Declared.contains.Goals as goal

pub returns : goal.returns
returns g c = c.contains_key.ensures ∙ ap is_some (c.self.invariant c.args.name.now)
    ∙ list_any-position (λ entry. bytes_eq (g.T.Named.name_of entry) c.args.name.now)
    c.self.inside.entries.items
    ∙ ap (list_any (λ entry. bytes_eq (g.T.Named.name_of entry) c.args.name.now)) c.self.view_is
