use Rattle.std.proofs.Common.{codes}
use Rattle.std.proofs.lemmas.Result.{on_ok_weaker}
use Rattle.show_clear.specs.Explained.{quoted}
use Rattle.show_clear.proofs.TextsBehind.{text_behind}
use Rattle.show_clear.proofs.unnamed.append_not_added.Goals as goal

pub returns : goal.returns
returns c =
    let before = c.args.out.now.items in
    let named = text_behind before _ _ (codes "no filter ") (quoted c.args.name.now)
    c.in_ok-append_text.ensures.ok c.in_ok-append_quoted.ensures in
    on_ok_weaker c.append_text-2.result (λ more. text_behind before _ _ _
    (codes " was added; those of the configuration stay") named more)
    c.append_text-2.ensures.ok
