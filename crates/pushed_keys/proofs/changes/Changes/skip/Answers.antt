use Rattle.std.proofs.Common.{◌∙◌, ap, sym, refl}
use Rattle.std.specs.Prelude.{slice_get}
use Rattle.pushed_keys.proofs.Changed.{first_skipped, none_found, skipped_left}
use Rattle.pushed_keys.proofs.changes.Changes.skip.Goals as goal

pub returns-in_default : goal.returns-in_default
returns-in_default c =
    rw (none_found c.self.inside.bytes.items c.self.inside.words.items c.self.inside.behind
    c.self.inside.begin c.args.self.now c.self.view_is
    (ap (λ words. slice_get words c.self.inside.behind) (sym c.as_slice.ensures.value)
    ∙ sym c.word_at.ensures ∙ c.in_default.is)) refl

pub invariant_of-self : goal.invariant_of-self
invariant_of-self c =
    skipped_left c.self.inside.bytes.items c.self.inside.words.items c.self.inside.behind
    c.self.inside.begin c.in-Some.word c.self.invariant
    (ap (λ words. slice_get words c.self.inside.behind) (sym c.as_slice.ensures.value)
    ∙ sym c.word_at.ensures ∙ c.in-Some.is)

pub returns : goal.returns
returns c =
    first_skipped c.self.inside.bytes.items c.self.inside.words.items c.self.inside.behind
    c.self.inside.begin c.in-Some.word c.args.self.now c.self.view_is
    (ap (λ words. slice_get words c.self.inside.behind) (sym c.as_slice.ensures.value)
    ∙ sym c.word_at.ensures ∙ c.in-Some.is)
