use Rattle.std.proofs.Common.{◌∙◌, sym}
use Rattle.place_index.proofs.Held.{same_if_equal, other_if_unequal}
use Rattle.place_index.proofs.slots.is_same.Goals as goal

pub returns-clause-yes : goal.returns-clause-yes
returns-clause-yes g c =
    λ yes. same_if_equal g.K.PartialEq.eq g.K.Ord.cmp g.met.K.Ord.matches_eq
    g.met.K.IndexKey.exact c.args.a.now c.args.b.now (sym c.eq.ensures ∙ yes)

pub returns-clause-no : goal.returns-clause-no
returns-clause-no g c =
    λ no. other_if_unequal g.K.PartialEq.eq g.met.K.Eq.laws c.args.a.now c.args.b.now
    (sym c.eq.ensures ∙ no)
