use Rattle.std.proofs.Common.{sym}
use Rattle.std.specs.Ordering.{nat_cmp}
use Rattle.std.specs.Cmp.Lexicographic.{slice_cmp}
use Rattle.std.specs.BTreeMap.{is_at}
use Rattle.place_index.specs.Places.{item_at, in_order}
use Rattle.place_index.proofs.Ordered.{sorted-in_order, some_item}
use Rattle.peer_rows.proofs.Selecting.{remove_entry-missing}
use Rattle.peer_rows.proofs.Shown.{none-shown, rows-shown, gone-shown}
use Rattle.peer_rows.proofs.keyed.Keyed.remove.Goals as goal

pub returns-in_err-at-clause-value : goal.returns-in_err-at-clause-value
returns-in_err-at-clause-value c = rw (c.from_residual.ensures, ← c.self.view_is)
    (sym (none-shown c.self.inside.index.places c.args.key.now c.in_err-at.ensures.none))

pub returns-in_err-at-clause-entries : goal.returns-in_err-at-clause-entries
returns-in_err-at-clause-entries c = rw (← c.self.view_is)
    (sym (remove_entry-missing (is_at (slice_cmp nat_cmp c.args.key.now))
    (in_order c.self.inside.index.places)
    (none-shown c.self.inside.index.places c.args.key.now c.in_err-at.ensures.none)))

pub returns-in_err-at-clause-ordered : goal.returns-in_err-at-clause-ordered
returns-in_err-at-clause-ordered c =
    rw (← c.self.view_is) (sorted-in_order c.self.inside.index.places)

pub taken-requires : goal.taken-requires
taken-requires c = some_item (item_at c.self.inside.index.places c.in_ok-at.at)
    c.args.key.now c.in_ok-at.ensures.some

pub returns-clause-value : goal.returns-clause-value
returns-clause-value c = rw (← c.self.view_is)
    (sym (rows-shown c.self.inside.index.places c.args.key.now c.in_ok-at.ensures.distinct
    c.in_ok-at.at c.in_ok-at.ensures.some c.taken.result c.taken.ensures.value))

pub returns-clause-entries : goal.returns-clause-entries
returns-clause-entries c = rw (← c.self.view_is, c.taken.ensures.after)
    (gone-shown c.self.inside.index.places c.args.key.now c.in_ok-at.ensures.distinct
    c.in_ok-at.at c.in_ok-at.ensures.some)

pub returns-clause-ordered : goal.returns-clause-ordered
returns-clause-ordered c = sorted-in_order c.taken.new.index.places
