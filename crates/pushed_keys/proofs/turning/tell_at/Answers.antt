use Rattle.std.proofs.Common.{[], ◌∙◌, ap, map}
use Rattle.pushed_keys.proofs.Rest.{none_at, some_at}
use Rattle.pushed_keys.proofs.Taken.{set_told, set_unsaid}
use Rattle.pushed_keys.proofs.turning.tell_at.Goals as goal

pub returns-in-None-clause-unsaid : goal.returns-in-None-clause-unsaid
returns-in-None-clause-unsaid c =
    set_unsaid c.tell.result c.args.turn c.args.pushed.now _ _ _ _
    (none_at (λ set. map (λ key. key.now) set.items) c.args.sets.now c.args.place []
    c.in-None.ensures.lookup.3)
    (λ i. record { last = c.told_at-last.ensures.last i; marks = c.told_at-last.ensures.marks i })
    c.tell.ensures.unsaid

pub returns-in-None-clause-told : goal.returns-in-None-clause-told
returns-in-None-clause-told c =
    set_told c.tell.result c.args.turn c.args.pushed.now _ _ _ _
    (none_at (λ set. map (λ key. key.now) set.items) c.args.sets.now c.args.place []
    c.in-None.ensures.lookup.3)
    (λ i. record { last = c.told_at-last.ensures.last i; marks = c.told_at-last.ensures.marks i })
    c.tell.ensures.told

pub returns-in-Some-clause-unsaid : goal.returns-in-Some-clause-unsaid
returns-in-Some-clause-unsaid c =
    set_unsaid c.tell-in-Some.result c.args.turn c.args.pushed.now _ _ _ _
    (ap (map (λ key. key.now)) c.as_slice.ensures.value
    ∙ some_at (λ set. map (λ key. key.now) set.items) c.args.sets.now c.args.place
    c.in-Some.set.now [] c.in-Some.ensures.lookup.3.0 c.in-Some.ensures.lookup.1)
    (λ i. record { last = c.told_at-last.ensures.last i; marks = c.told_at-last.ensures.marks i })
    c.tell-in-Some.ensures.unsaid

pub returns-in-Some-clause-told : goal.returns-in-Some-clause-told
returns-in-Some-clause-told c =
    set_told c.tell-in-Some.result c.args.turn c.args.pushed.now _ _ _ _
    (ap (map (λ key. key.now)) c.as_slice.ensures.value
    ∙ some_at (λ set. map (λ key. key.now) set.items) c.args.sets.now c.args.place
    c.in-Some.set.now [] c.in-Some.ensures.lookup.3.0 c.in-Some.ensures.lookup.1)
    (λ i. record { last = c.told_at-last.ensures.last i; marks = c.told_at-last.ensures.marks i })
    c.tell-in-Some.ensures.told
