use Rattle.std.proofs.Common.{inl, inr}
use Rattle.place_index.proofs.reach.Reach.clear.Goals as goal

pub returns-clause-others : goal.returns-clause-others
returns-clause-others g c =
    λ k q other apart leads.
    elim leads [
      | inl has ↦ inl (c.clear-cleared.ensures (g.K.IndexKey.hashed k) q apart
          (c.free.ensures (g.K.IndexKey.hashed k) q apart has))
      | inr rest ↦ elim rest [
        | inl is ↦ inr (inl (c.forget.ensures k q other is))
        | inr there ↦ inr (inr (c.drop_loose.ensures.others q apart there))
      ]
    ]

pub returns-then-free-clause-others : goal.returns-then-free-clause-others
returns-then-free-clause-others g c =
    λ k q other apart leads.
    elim leads [
      | inl has ↦ inl (c.free.ensures (g.K.IndexKey.hashed k) q apart has)
      | inr rest ↦ inr rest
    ]
