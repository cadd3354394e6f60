use Rattle.std.proofs.Common.{[], ◌∙◌}
use Rattle.pushed_keys.proofs.Rest.{none_at, some_at}
use Rattle.pushed_keys.proofs.Taken.{moved_told, moved_unsaid}
use Rattle.pushed_keys.proofs.saying.tell_moved_at.Goals as goal

pub returns-in-None-clause-unsaid : goal.returns-in-None-clause-unsaid
returns-in-None-clause-unsaid c =
    let none = none_at (λ ms. ms.items) c.args.moves.now c.args.place []
    c.in-None.ensures.lookup.3 in
    moved_unsaid c.tell_moved.result c.args.turn c.args.pushed.now _ _ _ _ none
    (λ i. record { last = c.told_at-last.ensures.last i; marks = c.told_at-last.ensures.marks i })
    c.tell_moved.ensures.unsaid

pub returns-in-None-clause-told : goal.returns-in-None-clause-told
returns-in-None-clause-told c =
    let none = none_at (λ ms. ms.items) c.args.moves.now c.args.place []
    c.in-None.ensures.lookup.3 in
    moved_told c.tell_moved.result c.args.turn c.args.pushed.now _ _ _ _ none
    (λ i. record { last = c.told_at-last.ensures.last i; marks = c.told_at-last.ensures.marks i })
    c.tell_moved.ensures.told

pub returns-in-Some-clause-unsaid : goal.returns-in-Some-clause-unsaid
returns-in-Some-clause-unsaid c =
    let some = c.as_slice.ensures.value ∙ some_at (λ ms. ms.items) c.args.moves.now c.args.place
    c.in-Some.moves.now [] c.in-Some.ensures.lookup.3.0 c.in-Some.ensures.lookup.1 in
    moved_unsaid c.tell_moved-in-Some.result c.args.turn c.args.pushed.now _ _ _ _ some
    (λ i. record { last = c.told_at-last.ensures.last i; marks = c.told_at-last.ensures.marks i })
    c.tell_moved-in-Some.ensures.unsaid

pub returns-in-Some-clause-told : goal.returns-in-Some-clause-told
returns-in-Some-clause-told c =
    let some = c.as_slice.ensures.value ∙ some_at (λ ms. ms.items) c.args.moves.now c.args.place
    c.in-Some.moves.now [] c.in-Some.ensures.lookup.3.0 c.in-Some.ensures.lookup.1 in
    moved_told c.tell_moved-in-Some.result c.args.turn c.args.pushed.now _ _ _ _ some
    (λ i. record { last = c.told_at-last.ensures.last i; marks = c.told_at-last.ensures.marks i })
    c.tell_moved-in-Some.ensures.told
