use Rattle.std.proofs.Common.{◌≡◌, ◌∙◌, ℕ, List, Some, ap, arith, inr, length, map, subst, sym}
use Rattle.std.proofs.Common.{true}
use Rattle.standing_filters.specs.Plans.{AreWatches, Watching, view_of_watch}
use Rattle.standing_filters.specs.Ready.{AreCopies, AreReady}
use Rattle.standing_filters.specs.Watched.{filters_of}
use Rattle.standing_filters.proofs.Lent.{whole}
use Rattle.standing_filters.proofs.Readying.{copies_for, first_copy, ready_sure}
use Rattle.standing_filters.proofs.standing.Standing.prepare_room.Goals as goal

pub invariant_of-self-2 : goal.invariant_of-self-2
invariant_of-self-2 c =
    let done : List Watching = c.reserve_each.new.watches in
    let len : ℕ = c.self.inside.watches.len in
    let items : List Watching = c.self.inside.watches.items in
    let copies = c.make_copies.new.copies.items in
    let table = c.args.table in
    let reserved = c.in_ok-reserved.reserved in
    let count : len ≡ length done =
    omega (arith, c.reserve_each.auto.watches, c.as_mut_slice.ensures.len) in
    let own = first_copy c.args.key.now copies c.in_ok-make_copies.ensures.some
    c.in_ok-make_copies.ensures.copies.all in
    let enough = c.in_ok-reserved.ensures.filters
    ∙ ap (filters_of table) (sym c.in_ok-reserved.ensures.same) in
    subst (λ (ws : List Watching). AreWatches ws × AreReady table reserved.sure true copies ws)
    (sym (whole len done items count)) (
      c.reserve_each.ensures.stay,
      record {
        room = λ some. c.in_ok-reserved.ensures.room;
        some = λ is. c.in_ok-make_copies.ensures.some;
        copied = λ is. subst (λ key. AreCopies key (filters_of table
            (map view_of_watch done)) copies) (sym own)
            (copies_for c.args.key.now reserved.filters
            (filters_of table (map view_of_watch done)) copies enough
            c.in_ok-make_copies.ensures.copies);
      },
    )

pub returns-clause-ok : goal.returns-clause-ok
returns-clause-ok c = (
  ready_sure c.args.table c.in_ok-reserved.reserved.sure c.in_ok-reserved.ensures.sure,
  inr (ap Some (first_copy c.args.key.now c.make_copies.new.copies.items
      c.in_ok-make_copies.ensures.some c.in_ok-make_copies.ensures.copies.all)),
)
