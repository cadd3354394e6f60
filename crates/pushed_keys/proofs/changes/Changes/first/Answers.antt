use Rattle.std.proofs.Common.{◌∙◌, ap, sym}
use Rattle.std.specs.Prelude.{slice_get}
use Rattle.pushed_keys.proofs.Changed.{first_found, key_taken, none_found}
use Rattle.pushed_keys.proofs.changes.Changes.first.Goals as goal

pub returns-in_default : goal.returns-in_default
returns-in_default c =
    none_found c.self.inside.bytes.items c.self.inside.words.items c.self.inside.behind
    c.self.inside.begin c.args.self.now c.self.view_is
    (ap (λ words. slice_get words c.self.inside.behind) (sym c.as_slice.ensures.value)
    ∙ sym c.word_at.ensures ∙ c.in_default.is)

pub returns : goal.returns
returns c =
    first_found c.self.inside.bytes.items c.self.inside.words.items c.split_at-2.result.0.now
    c.self.inside.behind c.self.inside.begin c.in-Some.word c.change_in.result
    c.args.self.now c.self.view_is
    (ap (λ words. slice_get words c.self.inside.behind) (sym c.as_slice.ensures.value)
    ∙ sym c.word_at.ensures ∙ c.in-Some.is)
    (key_taken c.self.inside.bytes.items c.as_slice-bytes.result.now c.split_at.result.1.now
    c.split_at-2.result.0.now c.self.inside.begin c.min.result c.in-Some.word c.min-2.result
    c.as_slice-bytes.ensures.value c.min.ensures c.split_at.ensures.back c.min-2.ensures
    c.split_at-2.ensures.front)
    c.change_in.ensures
