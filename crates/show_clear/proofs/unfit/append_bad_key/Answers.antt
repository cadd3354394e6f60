use Rattle.std.proofs.Common.{codes}
use Rattle.std.proofs.lemmas.Result.{on_ok_weaker}
use Rattle.show_clear.specs.Explained.{quoted}
use Rattle.show_clear.proofs.TextsBehind.{text_behind}
use Rattle.show_clear.proofs.unfit.append_bad_key.Goals as goal

pub returns : goal.returns
returns c =
    let before = c.args.out.now.items in
    let label = text_behind before _ _ (quoted c.args.wrong.now) (codes " is no key of type ")
    c.in_ok-append_quoted.ensures c.in_ok-append_text.ensures.ok in
    on_ok_weaker c.append_kind.result (λ more. text_behind before _ _ _ _ label more)
    c.append_kind.ensures
