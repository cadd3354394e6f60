use Rattle.std.proofs.Common.{◌≡◌, ◌≢◌, ◌∙◌, [], ap, drop, refl, subst, sym, List}
use Rattle.pushed_keys.specs.declared.told.UnsaidTable.{UnsaidTable}
use Rattle.telling.specs.Unsaid.{Unsaid, unsaid_messages, unsaid_updates}
use Rattle.telling.proofs.Steps.{no_message, some_definition, some_message}
use Rattle.telling.proofs.unsaid.Unsaid.has_next.Goals as goal

pub returns-in-Some-clause-some : goal.returns-in-Some-clause-some
returns-in-Some-clause-some c = λ yes.
    some_definition c.args.pushed.now c.args.self.now _
    (ap (λ u. u.undefined) (sym c.self.view_is) ∙ c.in-Some.ensures.is refl)
    c.in-Some.ensures.within

pub returns-in-None-clause-none : goal.returns-in-None-clause-none
returns-in-None-clause-none c = λ no.
    subst (λ (u : Unsaid). unsaid_messages c.args.pushed.now u ≡ []) c.self.view_is
    (no_message c.args.pushed.now _ (c.in-None.ensures.none refl)
    (subst (λ (ts : List UnsaidTable). unsaid_updates c.self.inside.defined c.self.inside.place
    (drop c.self.inside.place c.args.pushed.now) (drop c.self.inside.place ts) ≡ [])
    c.as_slice.ensures.value (c.has_update.ensures.none no c.self.inside.defined)))

pub returns-in-None-clause-some : goal.returns-in-None-clause-some
returns-in-None-clause-some c = λ yes.
    subst (λ (u : Unsaid). unsaid_messages c.args.pushed.now u ≢ []) c.self.view_is
    (some_message c.args.pushed.now _ (c.in-None.ensures.none refl)
    (subst (λ (ts : List UnsaidTable). unsaid_updates c.self.inside.defined c.self.inside.place
    (drop c.self.inside.place c.args.pushed.now) (drop c.self.inside.place ts) ≢ [])
    c.as_slice.ensures.value (c.has_update.ensures.some yes c.self.inside.defined)))
