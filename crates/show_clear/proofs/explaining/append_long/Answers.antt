use Rattle.std.proofs.Common.{◌≡◌, ◌∙◌, ◌++◌, append_assoc, codes, decimal}
use Rattle.std.proofs.lemmas.Result.{on_ok_weaker}
use Rattle.agg_types.specs.declared.limits.TheConstants.{LONGEST_COMMAND_LINE}
use Rattle.show_clear.proofs.TextsBehind.{text_behind}
use Rattle.show_clear.proofs.explaining.append_long.Goals as goal

pub returns : goal.returns
returns c =
    let before = c.args.out.now.items in
    let so = codes "the line has more than " ++ decimal LONGEST_COMMAND_LINE in
    let at : c.append_counted.new.out.items ≡ before ++ so =
    c.in_ok-append_counted.ensures.ok ∙ append_assoc before (codes "the line has more than ")
    (decimal LONGEST_COMMAND_LINE) in
    on_ok_weaker c.append_text.result (λ more. text_behind before _ _ so (codes " bytes") at more)
    c.append_text.ensures.ok
