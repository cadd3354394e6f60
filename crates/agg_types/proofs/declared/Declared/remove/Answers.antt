use Rattle.std.proofs.Common.{◌∙◌, None, ap, ap₂, cond, is_some, sym}
use Rattle.std.specs.Str.{bytes_eq}
use Rattle.agg_types.specs.Naming.{place_of}
use Rattle.agg_types.proofs.Removing.{first-remove}
use Rattle.agg_types.proofs.declared.Declared.remove.Goals as goal

pub invariant_of-self : goal.invariant_of-self
invariant_of-self g c name =
    c.note_again.ensures name
    ∙ (ap₂ (λ noted entries. cond (is_some noted) (place_of g.T.Named.name_of entries name) None)
    (c.self.invariant name) (c.as_slice.ensures.value ∙ c.remove-gone.ensures.items)
    ∙ (first-remove (λ entry. bytes_eq (g.T.Named.name_of entry) name) c.self.inside.entries.items
    c.args.place
    ∙ ap (λ entries. place_of g.T.Named.name_of entries name) (sym c.remove-gone.ensures.items)))
