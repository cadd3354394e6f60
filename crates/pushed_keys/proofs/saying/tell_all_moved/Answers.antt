use Rattle.std.proofs.Common.{[], ◌+◌, ◌∙◌, map, List, ℕ}
use Rattle.std.specs.Prelude.{slice_index_or}
use Rattle.pushed_keys.specs.Moves.{BringsTo}
use Rattle.pushed_keys.specs.Turns.{no_table}
use Rattle.pushed_keys.proofs.Taken.{all_told, all_unsaid, none_taken, one_taken}
use Rattle.pushed_keys.proofs.saying.tell_all_moved.Goals as goal

pub loop-before-init : goal.loop-before-init
loop-before-init c = λ sets to. rw (c.new-unsaid.ensures.items, c.new-tables.ensures.items)
    (none_taken c.args.turn sets c.args.told.now c.args.pushed.now)

pub loop-before-preserved : goal.loop-before-preserved
loop-before-preserved c = λ sets to.
    let at : ℕ = c.loop-before.before in
    let set : List (List ℕ) = slice_index_or sets at [] in
    let moved : BringsTo (slice_index_or (map (λ ms. ms.items) c.args.moves.now) at [])
    (slice_index_or c.args.told.now at no_table).marks set = to at c.loop-before-test.true in
    one_taken c.args.turn sets c.args.told.now c.args.pushed.now at
    c.index-pushed-before.result c.loop-before.unsaid.items c.push.new.self.items
    c.loop-before.tables.items c.push-in-loop-before.new.self.items _ _
    (c.loop-before.invariant sets to)
    c.loop-before-test.true c.index-pushed-before.is (c.in_ok-left.ensures.unsaid set moved)
    (c.in_ok-left.ensures.told set moved) c.in_ok-push.ensures.items
    c.in_ok-push-2.ensures.items

pub returns-clause-unsaid : goal.returns-clause-unsaid
returns-clause-unsaid c = λ sets to.
    all_unsaid c.args.turn sets c.args.told.now c.args.pushed.now c.loop-before.before
    c.loop-before.unsaid.items c.loop-before.tables.items (c.loop-before.invariant sets to)
    c.loop-before-test.false

pub returns-clause-told : goal.returns-clause-told
returns-clause-told c = λ sets to.
    c.from_vec.ensures ∙ all_told c.args.turn sets c.args.told.now c.args.pushed.now
    c.loop-before.before c.loop-before.unsaid.items c.loop-before.tables.items
    (c.loop-before.invariant sets to) c.loop-before-test.false
