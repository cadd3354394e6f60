use Rattle.std.proofs.Common.{◌++◌, codes}
use Rattle.std.proofs.lemmas.Result.{on_ok_weaker}
use Rattle.show_clear.specs.Explained.{quoted}
use Rattle.show_clear.proofs.TextsBehind.{text_behind}
use Rattle.show_clear.proofs.forms.append_stranger.Goals as goal

pub returns : goal.returns
returns c =
    let before = c.args.out.now.items in
    let word = quoted c.args.second.now in
    let label = word ++ codes " is no word behind " in
    let told = text_behind before _ _ word (codes " is no word behind ")
    c.in_ok-append_quoted.ensures c.in_ok-append_text.ensures.ok in
    let named = text_behind before _ _ label (quoted c.args.first.now) told
    c.in_ok-append_quoted-2.ensures in
    on_ok_weaker c.append_text-2.result (λ more. text_behind before _ _
    (label ++ quoted c.args.first.now) (codes "; see help") named more) c.append_text-2.ensures.ok
