use Rattle.std.proofs.Common.{arith, refl, subst, sym, ap}
use Rattle.std.specs.List.{All}
use Rattle.agg_types.specs.declared.config.Config.{Config}
use Rattle.hub.specs.History.{Beginning}
use Rattle.hub.specs.Roll.{MayPost}
use Rattle.hub.proofs.desk.Desk.append.Goals as goal

pub put_in-requires-clause-none_replaced : goal.put_in-requires-clause-none_replaced
put_in-requires-clause-none_replaced g c =
    rw c.in_default.is at c.replaced.ensures

pub put_in-requires-clause-fits : goal.put_in-requires-clause-fits
put_in-requires-clause-fits g c =
    subst (λ (config : Config). All (MayPost config) c.args.whats)
    (sym (ap (λ (b : Beginning). b.config) c.count_of-found.ensures.follows.same))
    c.requires.fits

pub returns-then-is_spent-clause-told : goal.returns-then-is_spent-clause-told
returns-then-is_spent-clause-told g c =
    let none = rw c.in_default.is at c.replaced.ensures in
    record {
      pass = refl;
      refused = record {
        before = c.args.self.now.all;
        seen = c.count_of-found.ensures.follows;
        owns = omega (
          arith,
          c.count_of-found.ensures.owns,
          c.number.ensures,
          c.if-found-number.false,
        );
        none_replaced = none;
        spent = omega (
          arith,
          c.count_of-found.ensures.owns,
          c.number.ensures,
          c.if-found-number.false,
          c.is_spent.ensures,
        );
      };
      back_is = refl;
    }
