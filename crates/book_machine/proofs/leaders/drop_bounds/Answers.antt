use Rattle.std.proofs.Common.{refl, ap, sym, subst, ◌∙◌}
use Rattle.agg_types.specs.declared.config.Rank.{Rank}
use Rattle.book_machine.specs.Leading.{IsKeyDropped, Lists}
use Rattle.book_machine.proofs.Leading.{dropped_more, rank_is}
use Rattle.book_machine.proofs.leaders.drop_bounds.Goals as goal
use Rattle.book_machine.proofs.leaders.drop_bounds.Goals.{then-rank-table, else-rank-table}

pub loop-list-init : goal.loop-list-init
loop-list-init c = record { count = refl; others = λ list other apart. refl }

pub loop-list-preserved : goal.loop-list-preserved
loop-list-preserved c =
    elim c.if-rank-table.branch [
      | then-rank-table w ↦
          subst (λ (lists : Lists). IsKeyDropped c.args.ranks.now c.args.table c.args.key.now
          c.args.leaders.now lists) (sym w.leaders-is)
          (dropped_more c.args.ranks.now c.args.table c.args.key.now c.loop-list.list
          c.args.leaders.now c.loop-list.leaders w.drop_key.new.self c.loop-list.invariant
          w.drop_key.ensures.others
          (ap (λ (rank : Rank). rank.table) (rank_is c.args.ranks.now c.loop-list.list
          c.index-ranks-list.result c.index-ranks-list.is c.loop-list-test.true)
          ∙ w.if-rank-table.true))
      | else-rank-table w ↦
          subst (λ (lists : Lists). IsKeyDropped c.args.ranks.now c.args.table c.args.key.now
          c.args.leaders.now lists) (sym w.leaders-is) c.loop-list.invariant
    ]
