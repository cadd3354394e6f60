use Rattle.std.proofs.Common.{ℕ, List, ap, sym, subst, ◌∙◌}
use Rattle.std.proofs.lemmas.Result.{IfOk-weaker}
use Rattle.std.specs.Map.{keys_of}
use Rattle.place_index.specs.Places.{in_order}
use Rattle.place_index.proofs.Ordered.{sorted-in_order}
use Rattle.ranked.proofs.Indexed.{bounds_hold}
use Rattle.ranked.proofs.Sorting.{found_is}
use Rattle.ranked.specs.Bounds.{AreAllBounded, IsIndexOf, IsByKey, IsListOf, first_ranked}
use Rattle.ranked.proofs.bounds.Bounds.top.Goals as goal

pub new-requires-clause-bounds : goal.new-requires-clause-bounds
new-requires-clause-bounds g c =
    let living : List ℕ → ℕ = λ key. g.V.Values.living c.args.values.now c.args.wanted.table
    key c.args.wanted.now in
    let value : List ℕ → ℕ = λ key. g.V.Values.summed c.args.values.now c.args.wanted.table key
    c.args.wanted.col c.args.wanted.now in
    bounds_hold c.self.inside.index (in_order c.self.inside.zeros.places) living value
    c.self.invariant (subst (λ kept. AreAllBounded kept living value)
    (sym c.self.view_is) c.requires.bounds)

pub returns : goal.returns
returns g c =
    let living : List ℕ → ℕ = λ key. g.V.Values.living c.args.values.now c.args.wanted.table
    key c.args.wanted.now in
    let value : List ℕ → ℕ = λ key. g.V.Values.summed c.args.values.now c.args.wanted.table key
    c.args.wanted.col c.args.wanted.now in
    let places = c.self.inside.zeros.places in
    record {
      list = IfOk-weaker c.new.result _ _ (λ list is. is
          ∙ found_is c.args.wanted.n living value c.self.inside.index (in_order places)
          c.self.invariant (sorted-in_order places) c.new.ensures.ordered
          ∙ ap (λ kept. first_ranked c.args.wanted.n living value (keys_of kept)) c.self.view_is)
          c.new.ensures.list;
      index = IfOk-weaker c.new.result _ _
          (λ list is. subst (λ index. IsListOf index c.args.self.now) (sym is) (record {
            exact = subst (λ kept. IsIndexOf c.self.inside.index kept) c.self.view_is
                c.self.invariant;
            in_order = c.new.ensures.ordered;
          })) c.new.ensures.index;
      start = c.new.ensures.start;
      ordered = subst IsByKey c.self.view_is (sorted-in_order places);
    }
