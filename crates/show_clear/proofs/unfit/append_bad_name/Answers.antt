use Rattle.std.proofs.Common.{◌≡◌, ◌++◌, codes, decimal}
use Rattle.std.proofs.lemmas.Result.{on_ok_weaker}
use Rattle.agg_types.specs.declared.limits.TheConstants.{LONGEST_NAME}
use Rattle.show_clear.specs.Explained.{quoted}
use Rattle.show_clear.proofs.TextsBehind.{counted_behind, text_behind}
use Rattle.show_clear.proofs.unfit.append_bad_name.Goals as goal

pub returns : goal.returns
returns c =
    let before = c.args.out.now.items in
    let so = quoted c.args.name.now in
    let label = codes " can't name a filter: a name has 1 to " in
    let at : c.append_counted.new.out.items ≡ before ++ (so ++ label ++ decimal LONGEST_NAME) =
    counted_behind before c.append_quoted.new.out.items _ so label (decimal LONGEST_NAME)
    c.in_ok-append_quoted.ensures c.in_ok-append_counted.ensures.ok in
    on_ok_weaker c.append_text.result (λ more. text_behind before _ _
    (so ++ label ++ decimal LONGEST_NAME) (codes " bytes, each of 33 to 126") at more)
    c.append_text.ensures.ok
