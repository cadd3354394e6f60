use Rattle.std.proofs.Common.{◌∙◌, ◌++◌, List, ap, codes, map}
use Rattle.std.proofs.lemmas.Result.{on_ok_weaker}
use Rattle.agg_types.specs.declared.config.Config.{Config}
use Rattle.agg_types.specs.declared.config.Filter.{Filter}
use Rattle.show_clear.specs.Explained.{names_text, quoted}
use Rattle.show_clear.proofs.TextsBehind.{text_behind}
use Rattle.show_clear.proofs.unnamed.append_no_filter.Goals as goal

pub returns : goal.returns
returns c =
    let before = c.args.out.now.items in
    let named = text_behind before _ _ (codes "no filter ") (quoted c.args.name.now)
    c.in_ok-append_text.ensures.ok c.in_ok-append_quoted.ensures in
    let said = text_behind before _ _ _ (codes " exists") named
    c.in_ok-append_text-2.ensures.ok in
    on_ok_weaker c.append_names.result (λ more. text_behind before _ _ _ _ said (more
    ∙ ap (λ (entries : List Filter). c.append_text-2.new.out.items
    ++ names_text (codes "; filters are: ") (map (λ filter. filter.name) entries))
    (c.as_slice.ensures ∙ ap (λ (config : Config). config.filters) c.config.ensures.value)))
    c.append_names.ensures
