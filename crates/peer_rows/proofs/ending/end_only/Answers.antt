use Rattle.std.proofs.Common.{arith}
use Rattle.std.specs.Prelude.{None, slice_set}
use Rattle.peer_rows.proofs.InTime.{rows_gone}
use Rattle.peer_rows.proofs.Kept.{get_or_in}
use Rattle.peer_rows.proofs.Living.{can_count, in_counts, row_gone, row_kept, stay_live}
use Rattle.peer_rows.proofs.ending.end_only.Goals as goal

pub index_mut-requires : goal.index_mut-requires
index_mut-requires c =
    let within = in_counts c.args.keys.now.places c.args.counts.now.items c.args.at c.args.peer
    c.requires.kept c.count-distinct.ensures.distinct c.requires.held in
    omega (arith, within, c.args.counts.now.ok.0)

pub overflow_sub-index_mut : goal.overflow_sub-index_mut
overflow_sub-index_mut c =
    let within = in_counts c.args.keys.now.places c.args.counts.now.items c.args.at c.args.peer
    c.requires.kept c.count-distinct.ensures.distinct c.requires.held in
    rw (get_or_in c.args.counts.now.items c.args.peer c.index_mut.result.now within
    c.index_mut.ensures.value)
    (can_count c.args.keys.now.places c.args.counts.now.items c.args.at c.args.peer
    c.requires.kept c.count-distinct.ensures.distinct c.requires.held)

pub returns-clause-kept : goal.returns-clause-kept
returns-clause-kept c =
    let within = in_counts c.args.keys.now.places c.args.counts.now.items c.args.at c.args.peer
    c.requires.kept c.count-distinct.ensures.distinct c.requires.held in
    rw (
      c.remove_near.ensures.after,
      get_or_in c.args.counts.now.items c.args.peer
          c.index_mut.result.now within c.index_mut.ensures.value,
    )
    (row_kept c.args.keys.now.places c.args.counts.now.items c.args.at c.args.peer
    c.requires.kept c.count-distinct.ensures.distinct c.requires.held
    c.requires.only)

pub returns-clause-rows : goal.returns-clause-rows
returns-clause-rows c = λ t ended.
    rw c.remove_near.ensures.after
    (stay_live c.args.keys.now.places c.args.counts.now.items c.args.at c.args.peer
    c.requires.kept c.count-distinct.ensures.distinct c.requires.held
    (slice_set c.args.keys.now.places c.args.at None) t
    (row_gone c.args.keys.now.places c.args.counts.now.items c.args.at c.args.peer
    c.requires.kept c.count-distinct.ensures.distinct c.requires.held
    c.requires.only) ended)

pub returns-clause-none : goal.returns-clause-none
returns-clause-none c = rw c.remove_near.ensures.after
    (rows_gone c.args.keys.now.places c.args.at)
