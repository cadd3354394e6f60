use Rattle.std.proofs.Common.{◌≡◌, ◌∙◌, ◌++◌, append_assoc, codes, decimal}
use Rattle.std.proofs.lemmas.Result.{on_ok_weaker}
use Rattle.agg_types.specs.declared.limits.TheConstants.{MOST_FILTERS}
use Rattle.show_clear.proofs.TextsBehind.{text_behind}
use Rattle.show_clear.proofs.unfit.append_full.Goals as goal

pub returns : goal.returns
returns c =
    let before = c.args.out.now.items in
    let so = codes "there may be " ++ decimal MOST_FILTERS in
    let at : c.append_counted.new.out.items ≡ before ++ so =
    c.in_ok-append_counted.ensures.ok ∙ append_assoc before (codes "there may be ")
    (decimal MOST_FILTERS) in
    on_ok_weaker c.append_text.result (λ more. text_behind before _ _ so
    (codes " filters; del filter <filter> takes away one that was added") at more)
    c.append_text.ensures.ok
