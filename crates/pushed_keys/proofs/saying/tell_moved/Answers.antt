use Rattle.std.proofs.Common.{◌≡◌, ◌∙◌, ap, subst, sym, Bool, List, ℕ}
use Rattle.std.proofs.lemmas.Result.{IfOk-weaker}
use Rattle.pushed_keys.specs.Moves.{AreInOrder, BringsTo, moved_keys, moved_stands, said_of}
use Rattle.pushed_keys.specs.Packed.{marks_of}
use Rattle.pushed_keys.specs.Stands.{stands}
use Rattle.pushed_keys.specs.Turns.{unsaid_table, changes, last_after}
use Rattle.pushed_keys.specs.declared.moved.Moved.{Moved}
use Rattle.pushed_keys.proofs.Turned.{same_changes, same_marks}
use Rattle.pushed_keys.proofs.saying.tell_moved.Goals as goal

order : (c : goal.After-drop-ordered) → AreInOrder (moved_keys c.as_slice.result.now)
order c =
    subst (λ (ms : List Moved). AreInOrder (moved_keys ms)) (sym c.as_slice.ensures.value)
    c.in_ok-ordered.ensures.order

said : (c : goal.After-drop-ordered) (key : List ℕ) (was : Bool)
    → said_of key c.as_slice.result.now was ≡ said_of key c.args.moves.now was
said c key was =
    ap (λ (ms : List Moved). said_of key ms was) c.as_slice.ensures.value
    ∙ c.in_ok-ordered.ensures.said key was

changes_are : (c : goal.After-drop-ordered) (set : List (List ℕ))
    → BringsTo c.args.moves.now (marks_of c.args.marks) set
    → changes c.args.pushed.now c.args.turn
    (moved_stands c.as_slice.result.now (marks_of c.args.marks))
    ≡ changes c.args.pushed.now c.args.turn (stands set (marks_of c.args.marks))
changes_are c set to =
    same_changes c.args.pushed.now c.args.turn c.args.moves.now c.as_slice.result.now
    (marks_of c.args.marks) set (order c) (said c) to

pub returns-clause-unsaid : goal.returns-clause-unsaid
unfolding unsaid_table
returns-clause-unsaid c = IfOk-weaker c.tell_moves.result _ _ (λ tables h set to.
    h to.ordered ∙ (λ i. record { last = c.args.last; changes = changes_are c set to i }))
    c.tell_moves.ensures.unsaid

pub returns-clause-told : goal.returns-clause-told
returns-clause-told c = IfOk-weaker c.tell_moves.result _ _ (λ tables h set to.
    let last = ap (last_after c.args.last) (changes_are c set to) in
    let marks = same_marks c.args.pushed.now c.args.turn c.args.moves.now c.as_slice.result.now
    (marks_of c.args.marks) set (order c) (said c) to in
    h to.ordered ∙ (λ i. record { last = last i; marks = marks i })) c.tell_moves.ensures.told
