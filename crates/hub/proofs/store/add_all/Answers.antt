use Rattle.std.proofs.Common.{◌+◌, ◌<◌, ◌≡◌, length, subst}
use Rattle.agg_types.specs.declared.limits.TheConstants.{NUMBERS_END}
use Rattle.hub.proofs.Filling.{batch_counts, filled}
use Rattle.hub.proofs.store.add_all.Goals as goal

pub add_all-requires-clause-counts : goal.add_all-requires-clause-counts
add_all-requires-clause-counts g c =
    batch_counts c.args.front.now c.args.roll.now c.args.sitting.now c.args.batch.now
    c.requires.seat c.requires.first (record {
      counted = c.requires.counted;
      recalled = c.requires.recalled;
      fits = c.requires.fits;
      due = c.requires.due;
      last = subst (λ n. n + length c.args.batch.now.whats < NUMBERS_END) c.requires.first
          c.len.ensures.last;
    })

pub returns-else-not-add_all-clause-counted : goal.returns-else-not-add_all-clause-counted
returns-else-not-add_all-clause-counted g c =
    let later_is : c.first.result + c.len.result
    ≡ c.args.batch.now.first + length c.args.batch.now.whats =
    λ i. (c.first.ensures i) + (c.len.ensures.count i) in
    (filled c.args.front.now c.args.roll.now c.args.sitting.now c.args.batch.now
    c.requires.seat c.requires.first (record {
      counted = c.requires.counted;
      recalled = c.requires.recalled;
      fits = c.requires.fits;
      due = c.requires.due;
      last = subst (λ n. n + length c.args.batch.now.whats < NUMBERS_END) c.requires.first
          c.len.ensures.last;
    }) c.len-2.ensures.legal c.add_all.new.self c.if-not-add_all.ensures.fleet
    c.if-not-add_all.ensures.added c.note_all.new.roll c.count_to.new.self c.note_all.new.sitting
    c.count_to-2.new.self c.seat.result (c.first.result + c.len.result) c.note_all.ensures.roll
    c.note_all.ensures.sitting c.seat.ensures later_is c.count_to.ensures
    c.count_to-2.ensures).0

pub returns-else-not-add_all-clause-recalled : goal.returns-else-not-add_all-clause-recalled
returns-else-not-add_all-clause-recalled g c =
    let later_is : c.first.result + c.len.result
    ≡ c.args.batch.now.first + length c.args.batch.now.whats =
    λ i. (c.first.ensures i) + (c.len.ensures.count i) in
    (filled c.args.front.now c.args.roll.now c.args.sitting.now c.args.batch.now
    c.requires.seat c.requires.first (record {
      counted = c.requires.counted;
      recalled = c.requires.recalled;
      fits = c.requires.fits;
      due = c.requires.due;
      last = subst (λ n. n + length c.args.batch.now.whats < NUMBERS_END) c.requires.first
          c.len.ensures.last;
    }) c.len-2.ensures.legal c.add_all.new.self c.if-not-add_all.ensures.fleet
    c.if-not-add_all.ensures.added c.note_all.new.roll c.count_to.new.self c.note_all.new.sitting
    c.count_to-2.new.self c.seat.result (c.first.result + c.len.result) c.note_all.ensures.roll
    c.note_all.ensures.sitting c.seat.ensures later_is c.count_to.ensures
    c.count_to-2.ensures).1
