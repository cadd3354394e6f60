use Rattle.std.proofs.Common.{◌∙◌, ap}
use Rattle.std.specs.Str.{bytes_eq}
use Rattle.agg_types.specs.Naming.{place_of}
use Rattle.agg_types.proofs.Naming.{position-within}
use Rattle.agg_types.proofs.declared.Declared.position.Goals as goal

pub returns-clause-within : goal.returns-clause-within
returns-clause-within g c =
    position-within (λ entry. bytes_eq (g.T.Named.name_of entry) c.args.name.now)
    c.args.self.now c.copied.result (c.copied.ensures ∙ c.get.ensures.value
    ∙ c.self.invariant c.args.name.now
    ∙ ap (λ entries. place_of g.T.Named.name_of entries c.args.name.now) c.self.view_is)
