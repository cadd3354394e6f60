use Rattle.std.proofs.Common.{sym, ap, ◌∙◌, subst, inl, inr}
use Rattle.place_index.proofs.Leading.{if_none, if_none_at}
use Rattle.hash_windows.proofs.Words.{in_window}
use Rattle.place_index.specs.Crowd.{IsCrowded}
use Rattle.place_index.specs.Loose.{IsLoose}
use Rattle.hash_windows.specs.Windows.{short_of}
use Rattle.place_index.proofs.reach.Reach.find.Goals as goal

pub returns-clause-none : goal.returns-clause-none
returns-clause-none g c =
    if_none c.loose_in.result c.loose_in.ensures.none
    (λ apart at is_held leads.
    elim leads [
      | inl has ↦
          if_none_at c.named_in.result c.named_in.ensures.none c.in_default.is at is_held
          (in_window c.args.self.now.windows c.window.result.now
          c.short-short.result (g.K.IndexKey.hashed c.args.key.now) at
          c.window.ensures (c.short-short.ensures.value ∙ ap short_of c.hash_of-hash.ensures) has)
      | inr rest ↦
          elim rest [
            | inl is ↦
                if_none_at c.crowded_at.result c.crowded_at.ensures.none
                c.in_default-crowded_at.is at is_held
                (subst (λ hash. IsCrowded g.K.Ord.cmp c.args.self.now.crowd c.args.key.now hash at)
                (sym c.hash_of-hash.ensures) is)
            | inr there ↦
                apart at is_held (subst (λ l. IsLoose l at) (sym c.deref.ensures.value) there)
          ]
    ])
