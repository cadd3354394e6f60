use Rattle.std.proofs.Common.{◌∙◌, map, List, ℕ}
use Rattle.pushed_keys.proofs.Taken.{all_told, all_unsaid, one_taken}
use Rattle.pushed_keys.proofs.turning.tell_all.Goals as goal

pub loop-before-preserved : goal.loop-before-preserved
loop-before-preserved c =
    let sets : List (List (List ℕ)) = map (λ set. map (λ key. key.now) set.items) c.args.sets.now in
    one_taken c.args.turn sets c.args.told.now c.args.pushed.now c.loop-before.before
    c.index-pushed-before.result c.loop-before.unsaid.items c.push.new.self.items
    c.loop-before.tables.items c.push-in-loop-before.new.self.items _ _ c.loop-before.invariant
    c.loop-before-test.true c.index-pushed-before.is c.in_ok-left.ensures.unsaid
    c.in_ok-left.ensures.told c.in_ok-push.ensures.items c.in_ok-push-2.ensures.items

pub returns-clause-unsaid : goal.returns-clause-unsaid
returns-clause-unsaid c =
    all_unsaid c.args.turn _ c.args.told.now c.args.pushed.now c.loop-before.before
    c.loop-before.unsaid.items c.loop-before.tables.items c.loop-before.invariant
    c.loop-before-test.false

pub returns-clause-told : goal.returns-clause-told
returns-clause-told c =
    c.from_vec.ensures ∙ all_told c.args.turn _ c.args.told.now c.args.pushed.now
    c.loop-before.before c.loop-before.unsaid.items c.loop-before.tables.items
    c.loop-before.invariant c.loop-before-test.false
