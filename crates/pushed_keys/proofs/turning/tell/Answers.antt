use Rattle.std.proofs.Common.{[], ◌∷◌, ◌∙◌, ap, map, sym, subst, List}
use Rattle.std.proofs.lemmas.Result.{IfOk-weaker}
use Rattle.pushed_keys.specs.Packed.{marks_of}
use Rattle.pushed_keys.specs.Stands.{Stand, shown, stands}
use Rattle.pushed_keys.specs.Turns.{last_after, unsaid_table}
use Rattle.pushed_keys.proofs.Left.{Done, IsDone, done_by, done_then}
use Rattle.pushed_keys.proofs.turning.tell.Goals as goal

abbrev start : Done
start = record { changes = []; kept = [] }

pub loop-standing-init : goal.loop-standing-init
loop-standing-init c = λ new h.
    subst (λ (keys : List Stand). IsDone c.args.pushed.now c.args.turn start keys new)
    (c.into_iter-standing-iterator.ensures.into_iter_gives ∙ c.new-standing-items.ensures)
    (subst (λ (done : Done). IsDone c.args.pushed.now c.args.turn done
    c.into_iter-standing-iterator.result new) c.new-done.ensures h)

pub loop-standing-preserved : goal.loop-standing-preserved
loop-standing-preserved c = λ new h.
    c.loop-standing.invariant new (subst (λ (keys : List Stand).
    IsDone c.args.pushed.now c.args.turn c.loop-standing.done keys new)
    (sym c.in-Some.ensures.steps) (done_then c.args.pushed.now c.args.turn c.loop-standing.done
    c.tell.new.self new (shown c.in-Some.standing ∷ []) c.next.new.self c.in_ok-tell.ensures h))

all_done : (c : goal.After-finish) → IsDone c.args.pushed.now c.args.turn start
    (stands (map (λ key. key.now) c.args.set.now) (marks_of c.args.marks)) c.loop-standing.done
all_done c =
    done_by c.args.pushed.now c.args.turn start c.loop-standing.done
    (stands (map (λ key. key.now) c.args.set.now) (marks_of c.args.marks)) _
    c.in-None.ensures.steps.0 c.loop-standing.invariant

pub returns-clause-unsaid : goal.returns-clause-unsaid
unfolding unsaid_table
returns-clause-unsaid c = IfOk-weaker c.finish.result _ _ (λ tables h.
    h ∙ (λ i. record { last = c.args.last; changes = (all_done c).said i })) c.finish.ensures.unsaid

pub returns-clause-told : goal.returns-clause-told
returns-clause-told c = IfOk-weaker c.finish.result _ _ (λ tables h.
    let last = ap (last_after c.args.last) (all_done c).said in
    h ∙ (λ i. record { last = last i; marks = (all_done c).kept i })) c.finish.ensures.told
