use Rattle.std.proofs.Common.{codes}
use Rattle.std.proofs.lemmas.Result.{on_ok_weaker}
use Rattle.show_clear.specs.Explained.{quoted}
use Rattle.show_clear.proofs.TextsBehind.{text_behind}
use Rattle.show_clear.proofs.unfit.append_bad_value.Goals as goal

pub returns : goal.returns
returns c =
    let before = c.args.out.now.items in
    on_ok_weaker c.append_text.result (λ more. text_behind before _ _ (quoted c.args.wrong.now)
    (codes " stands where 1 to 20 digits are expected, up to 18446744073709551615")
    c.in_ok-append_quoted.ensures more)
    c.append_text.ensures.ok
