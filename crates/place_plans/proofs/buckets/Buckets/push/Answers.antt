use Rattle.std.proofs.Common.{ap, sym, ◌∙◌}
use Rattle.std.proofs.lemmas.Map.Steps.{set_value_same}
use Rattle.std.proofs.lemmas.Result.{on_err_weaker}
use Rattle.std.specs.BTreeMap.{is_at}
use Rattle.std.specs.Map.{set_value}
use Rattle.std.specs.Option.{option_copied_mut}
use Rattle.std.specs.Ordering.{nat_cmp}
use Rattle.place_plans.proofs.buckets.Buckets.push.Goals as goal

pub returns-in-Some-clause-err : goal.returns-in-Some-clause-err
returns-in-Some-clause-err c =
    on_err_weaker c.push.result (λ e. (c.get_mut.follows.holds c.push.new.self).0
    ∙ ap (set_value (is_at (nat_cmp c.args.at)) c.self.inside.moments.entries) e
    ∙ set_value_same (is_at (nat_cmp c.args.at)) c.self.inside.moments.entries c.in-Some.bucket.now
    (sym c.get_mut.follows.claims.0 ∙ ap option_copied_mut c.in-Some.is)
    ∙ c.self.view_is) c.push.ensures.err
