use Rattle.std.proofs.Common.{◌≡◌, ◌∙◌, ◌++◌, append_assoc, codes, decimal}
use Rattle.std.proofs.lemmas.Result.{on_ok_weaker}
use Rattle.agg_types.specs.declared.limits.TheConstants.{LARGEST_SIZE, LONGEST_KEY, LONGEST_RANK}
use Rattle.agg_types.specs.declared.limits.TheConstants.{MOST_ROWS}
use Rattle.config_text.proofs.Counted.{behind}
use Rattle.config_text.proofs.explained.append_sizes.Goals as goal

pub returns : goal.returns
returns c =
    let before = c.args.out.now.items in
    let so1 = codes "a size is 1 to " ++ decimal LARGEST_SIZE in
    let so2 = so1 ++ codes ", a len 1 to " ++ decimal LONGEST_KEY in
    let so3 = so2 ++ codes ", a ranked list's length 1 to " ++ decimal LONGEST_RANK in
    let at1 : c.append_counted.new.out.items ≡ before ++ so1 =
    c.in_ok-append_counted.ensures ∙ append_assoc before (codes "a size is 1 to ")
    (decimal LARGEST_SIZE) in
    let at2 : c.append_counted-2.new.out.items ≡ before ++ so2 =
    behind before c.append_counted.new.out.items _ so1 (codes ", a len 1 to ")
    (decimal LONGEST_KEY) at1
    c.in_ok-append_counted-2.ensures in
    let at3 : c.append_counted-3.new.out.items ≡ before ++ so3 =
    behind before c.append_counted-2.new.out.items _ so2 (codes ", a ranked list's length 1 to ")
    (decimal LONGEST_RANK) at2
    c.in_ok-append_counted-3.ensures in
    on_ok_weaker c.append_counted-4.result (λ more. behind before _ _ so3
    (codes ", rows 1 to ") (decimal MOST_ROWS)
    at3 more) c.append_counted-4.ensures
