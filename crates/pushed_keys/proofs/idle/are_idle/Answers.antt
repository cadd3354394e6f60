use Rattle.std.proofs.Common.{arith, map, List, ℕ, [], subst, sym, refl}
use Rattle.std.specs.Prelude.{slice_index_or}
use Rattle.std.proofs.lemmas.List.{drop_all}
use Rattle.pushed_keys.specs.Moves.{BringsTo}
use Rattle.pushed_keys.specs.Turns.{no_table}
use Rattle.pushed_keys.specs.declared.moved.Moved.{Moved}
use Rattle.pushed_keys.specs.declared.told.ToldTable.{ToldTable}
use Rattle.pushed_keys.proofs.Quiet.{AllQuiet, all_quiet}
use Rattle.pushed_keys.proofs.Rest.{drop_here}
use Rattle.pushed_keys.proofs.Turned.{idle_quiet}
use Rattle.pushed_keys.proofs.idle.are_idle.Goals as goal

pub loop-before-preserved : goal.loop-before-preserved
loop-before-preserved c = λ sets to rest.
    let at : ℕ = c.loop-before.before in
    let moves : List Moved = slice_index_or (map (λ ms. ms.items) c.args.moves.now) at [] in
    let table : ToldTable = slice_index_or c.args.told.now at no_table in
    let moved : BringsTo moves table.marks (slice_index_or sets at []) =
    to at c.loop-before-test.true in
    c.loop-before.invariant sets to (subst (λ ps. AllQuiet c.args.turn sets c.args.told.now at ps)
    (sym (drop_here c.args.pushed.now at c.index-pushed-before.result c.loop-before-test.true
    c.index-pushed-before.is)) (
      idle_quiet c.index-pushed-before.result c.args.turn moves table.marks
          (slice_index_or sets at []) (c.if-not-is_idle_at.ensures.none refl) moved
          (c.if-not-is_idle_at.ensures.quiet refl),
      rest,
    ))

pub returns : goal.returns
returns c = λ yes sets to.
    let quiet : AllQuiet c.args.turn sets c.args.told.now 0 c.args.pushed.now =
    c.loop-before.invariant sets to (subst (λ ps. AllQuiet c.args.turn sets c.args.told.now
    c.loop-before.before ps) (sym (drop_all c.loop-before.before c.args.pushed.now
    c.loop-before-test.false)) tt) in
    all_quiet c.args.turn sets c.args.told.now c.args.pushed.now quiet (omega arith)
