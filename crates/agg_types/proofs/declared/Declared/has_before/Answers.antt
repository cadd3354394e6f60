use Rattle.std.proofs.Common.{◌∙◌, ap}
use Rattle.std.specs.Str.{bytes_eq}
use Rattle.agg_types.proofs.Naming.{is_below, list_any-take}
use Rattle.agg_types.proofs.declared.Declared.has_before.Goals as goal

pub returns-in-Some : goal.returns-in-Some
returns-in-Some g c = ap (is_below c.args.before) c.in-Some.ensures.first
    ∙ list_any-take (λ entry. bytes_eq (g.T.Named.name_of entry) c.args.name.now)
    c.args.self.now c.args.before

pub returns-in-None : goal.returns-in-None
returns-in-None g c = ap (is_below c.args.before) c.in-None.ensures.first
    ∙ list_any-take (λ entry. bytes_eq (g.T.Named.name_of entry) c.args.name.now)
    c.args.self.now c.args.before
