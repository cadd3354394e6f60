use Rattle.std.proofs.Common.{arith}
use Rattle.place_index.specs.Places.{revalued}
use Rattle.peer_rows.proofs.InTime.{rows_changed, rows_value}
use Rattle.peer_rows.proofs.Kept.{get_or_in}
use Rattle.peer_rows.proofs.Living.{can_count, fewer_one, gone_one, in_counts, kept_one}
use Rattle.peer_rows.proofs.Living.{stay_live}
use Rattle.peer_rows.proofs.ending.end_row.Goals as goal

pub index_mut-requires : goal.index_mut-requires
index_mut-requires c =
    let within = in_counts c.args.keys.now.places c.args.counts.now.items c.args.at c.args.peer
    c.requires.kept c.count-distinct.ensures.distinct c.requires.held in
    omega (arith, within, c.args.counts.now.ok.0)

pub overflow_sub-index_mut : goal.overflow_sub-index_mut
overflow_sub-index_mut c =
    let within = in_counts c.args.keys.now.places c.args.counts.now.items c.args.at c.args.peer
    c.requires.kept c.count-distinct.ensures.distinct c.requires.held in
    rw (get_or_in c.args.counts.now.items c.args.peer c.index_mut.result.now within
    c.index_mut.ensures.value)
    (can_count c.args.keys.now.places c.args.counts.now.items c.args.at c.args.peer
    c.requires.kept c.count-distinct.ensures.distinct c.requires.held)

pub returns-clause-kept : goal.returns-clause-kept
returns-clause-kept c =
    let within = in_counts c.args.keys.now.places c.args.counts.now.items c.args.at c.args.peer
    c.requires.kept c.count-distinct.ensures.distinct c.requires.held in
    rw (get_or_in c.args.counts.now.items c.args.peer
    c.index_mut.result.now within c.index_mut.ensures.value)
    (kept_one c.args.keys.now.places c.args.counts.now.items c.args.at c.args.peer
    c.requires.kept c.count-distinct.ensures.distinct c.requires.held
    c.value_mut-rows.result.now c.value_mut-rows.ensures.value c.take-ended.new.self
    c.take-ended.ensures.after c.take-ended.ensures.are)

pub returns-clause-rows : goal.returns-clause-rows
returns-clause-rows c = λ t ended.
    stay_live c.args.keys.now.places c.args.counts.now.items c.args.at c.args.peer
    c.requires.kept c.count-distinct.ensures.distinct c.requires.held
    (revalued c.args.keys.now.places c.args.at c.take-ended.new.self) t
    (gone_one c.args.keys.now.places c.args.counts.now.items c.args.at c.args.peer
    c.requires.kept c.count-distinct.ensures.distinct c.requires.held
    c.value_mut-rows.result.now c.value_mut-rows.ensures.value c.take-ended.new.self
    c.take-ended.ensures.after) ended

pub returns-clause-fewer : goal.returns-clause-fewer
returns-clause-fewer c =
    rw (
      rows_changed c.args.keys.now.places c.args.at c.value_mut-rows.result.now
          c.take-ended.new.self c.value_mut-rows.ensures.value,
      rows_value c.args.keys.now.places
          c.args.at c.value_mut-rows.result.now c.value_mut-rows.ensures.value,
    )
    (fewer_one c.args.keys.now.places c.args.counts.now.items c.args.at c.args.peer
    c.requires.kept c.count-distinct.ensures.distinct c.requires.held
    c.value_mut-rows.result.now c.value_mut-rows.ensures.value c.take-ended.new.self
    c.take-ended.ensures.after)
