use Rattle.std.proofs.Common.{ap, rules, sym}
use Rattle.std.proofs.lemmas.Slice.Eq.{bytes_eq-Decides}
use Rattle.std.specs.Str.{bytes_eq}
use Rattle.agg_types.specs.Naming.{place_of}
use Rattle.agg_types.proofs.Removing.{retained}
use Rattle.agg_types.proofs.declared.note_again.Goals as goal

pub returns : goal.returns
returns g c name = retained _ (λ k. bytes_eq name k.items)
    (λ k. place_of g.T.Named.name_of c.args.entries.now k.items)
    (place_of g.T.Named.name_of c.args.entries.now name)
    (λ k same. ap (place_of g.T.Named.name_of c.args.entries.now)
    (sym ((bytes_eq-Decides name k.items).0 same))) _
    (λ k v b w f call. search rules) _ _ c.retain.ensures.filtered
