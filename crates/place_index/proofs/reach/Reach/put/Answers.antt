use Rattle.std.proofs.Common.{sym, subst, inl, inr}
use Rattle.place_index.proofs.Apart.{loose_last, loose_pushed}
use Rattle.place_index.specs.Loose.{IsLoose}
use Rattle.place_index.proofs.reach.Reach.put.Goals as goal

pub returns-clause-leads : goal.returns-clause-leads
returns-clause-leads g c =
    inr (inr (subst (λ l. IsLoose l c.args.at) (sym c.push_reserved.ensures.items)
    (loose_last c.args.self.now.loose.items c.args.at)))

pub returns-clause-others : goal.returns-clause-others
returns-clause-others g c =
    λ k q other leads.
    elim leads [
      | inl has ↦ inl (c.put.ensures.others (g.K.IndexKey.hashed k) q has)
      | inr rest ↦ elim rest [
        | inl is ↦ inr (inl (c.put-2.ensures.others k q other is))
        | inr there ↦
            inr (inr (subst (λ l. IsLoose l q) (sym c.push_reserved.ensures.items)
            (loose_pushed c.args.self.now.loose.items c.args.at q there)))
      ]
    ]

pub returns-then-put-2-clause-others : goal.returns-then-put-2-clause-others
returns-then-put-2-clause-others g c =
    λ k q other leads.
    elim leads [
      | inl has ↦ inl (c.put.ensures.others (g.K.IndexKey.hashed k) q has)
      | inr rest ↦ elim rest [
        | inl is ↦ inr (inl (c.put-2.ensures.others k q other is))
        | inr there ↦ inr (inr there)
      ]
    ]
