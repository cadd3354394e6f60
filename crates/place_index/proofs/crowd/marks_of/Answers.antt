use Rattle.std.proofs.Common.{◌≡◌, true, sym, ap, ◌∙◌, inl, inr}
use Rattle.std.specs.BTreeMap.{is_at}
use Rattle.std.specs.Map.{lookup}
use Rattle.place_index.specs.Marks.{is_marked}
use Rattle.place_index.proofs.Crowded.{first_or_rest}
use Rattle.place_index.proofs.crowd.marks_of.Goals as goal

pub loop-key-preserved : goal.loop-key-preserved
loop-key-preserved g c =
    λ key at is.
    elim (c.loop-key.invariant key at is) [
      | inl marked ↦ inl (c.mark.ensures.others (g.K.IndexKey.hashed key) marked)
      | inr to_come ↦
          first_or_rest g.K.Ord.cmp g.met.K.IndexKey.exact
          (λ k. is_marked c.mark.new.self (g.K.IndexKey.hashed k) ≡ true) key
          c.in-Some.key.now c.in-Some.field-0-1.now at c.next.new.self
          (ap (λ hash. is_marked c.mark.new.self hash) (sym c.hash_of.ensures)
          ∙ c.mark.ensures.this)
          (ap (lookup (is_at (g.K.Ord.cmp key))) (sym c.in-Some.ensures.steps) ∙ to_come)
    ]
