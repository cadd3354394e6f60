use Rattle.std.proofs.Common.{ap, sym, subst, ◌∙◌}
use Rattle.agg_types.specs.declared.config.Rank.{Rank}
use Rattle.book_machine.specs.Leading.{IsTableDropped, Lists}
use Rattle.book_machine.proofs.Clearing.{none_dropped, table_more}
use Rattle.book_machine.proofs.Leading.{rank_is}
use Rattle.book_machine.proofs.leaders.drop_table_bounds.Goals as goal
use Rattle.book_machine.proofs.leaders.drop_table_bounds.Goals.{then-rank-table, else-rank-table}

pub loop-list-init : goal.loop-list-init
loop-list-init c = none_dropped c.args.ranks.now c.args.table c.args.leaders.now

pub loop-list-preserved : goal.loop-list-preserved
loop-list-preserved c =
    elim c.if-rank-table.branch [
      | then-rank-table w ↦
          subst (λ (lists : Lists). IsTableDropped c.args.ranks.now c.args.table
          c.args.leaders.now lists) (sym w.leaders-is)
          (table_more c.args.ranks.now c.args.table c.loop-list.list
          c.args.leaders.now c.loop-list.leaders w.clear.new.self c.loop-list.invariant
          w.clear.ensures.count w.clear.ensures.others
          (ap (λ (rank : Rank). rank.table) (rank_is c.args.ranks.now c.loop-list.list
          c.index-ranks-list.result c.index-ranks-list.is c.loop-list-test.true)
          ∙ w.if-rank-table.true))
      | else-rank-table w ↦
          subst (λ (lists : Lists). IsTableDropped c.args.ranks.now c.args.table
          c.args.leaders.now lists) (sym w.leaders-is) c.loop-list.invariant
    ]
