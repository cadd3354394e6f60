use Rattle.std.proofs.Common.{◌≡◌, ◌∙◌, ◌++◌, ◌-◌, append_assoc, codes, decimal}
use Rattle.std.proofs.lemmas.Result.{on_ok_weaker}
use Rattle.agg_types.specs.declared.limits.TheConstants.{HOLD_END, PERIOD_END, SHORTEST_HOLD}
use Rattle.config_text.proofs.Counted.{behind}
use Rattle.config_text.proofs.explained.append_periods.Goals as goal

pub returns : goal.returns
returns c =
    let before = c.args.out.now.items in
    let so1 = codes "a period and a keep are 1 to " ++ decimal (PERIOD_END - 1) in
    let so2 = so1 ++ codes " ms, a hold " ++ decimal SHORTEST_HOLD in
    let at1 : c.append_counted.new.out.items ≡ before ++ so1 =
    c.in_ok-append_counted.ensures ∙ append_assoc before (codes "a period and a keep are 1 to ")
    (decimal (PERIOD_END - 1)) in
    let at2 : c.append_counted-2.new.out.items ≡ before ++ so2 =
    behind before c.append_counted.new.out.items _ so1 (codes " ms, a hold ")
    (decimal SHORTEST_HOLD) at1
    c.in_ok-append_counted-2.ensures in
    on_ok_weaker c.append_counted-3.result (λ more. behind before _ _ so2 (codes " to ")
    (decimal (HOLD_END - 1))
    at2 more) c.append_counted-3.ensures
