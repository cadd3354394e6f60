use Rattle.std.proofs.Common.{◌≡◌, ◌∷◌, ◌++◌, true, ap, sym, ◌∙◌, arith}
use Rattle.std.specs.Prelude.{Some}
use Rattle.std.specs.Option.{option_copied_mut}
use Rattle.std.specs.Ordering.{nat_cmp}
use Rattle.std.specs.BTreeMap.{is_at}
use Rattle.std.specs.Map.{remove_entry}
use Rattle.expiry_wheel.specs.Entries.{first_moment, first_due, without_due}
use Rattle.expiry_wheel.specs.Items.{first_item, without_first}
use Rattle.expiry_wheel.specs.Moments.{entries_at, entries_of}
use Rattle.expiry_wheel.proofs.Lists.{some_items}
use Rattle.expiry_wheel.proofs.Grouped.{Located, FirstGroup, first_group, place_found}
use Rattle.expiry_wheel.proofs.Grouped.{groups_written, groups_dropped, first_looked_up}
use Rattle.expiry_wheel.proofs.Grouped.{first_due_is, without_due_is, first_written, first_dropped}
use Rattle.expiry_wheel.proofs.ordered.OrderedDueDueIndex.take_due.Goals as goal
use Rattle.expiry_wheel.proofs.ordered.OrderedDueDueIndex.take_due.Goals.{then-is_empty}
use Rattle.expiry_wheel.proofs.ordered.OrderedDueDueIndex.take_due.Goals.{else-is_empty}

pub returns-in_err-together-clause-taken : goal.returns-in_err-together-clause-taken
returns-in_err-together-clause-taken g c =
    let ms = c.self.inside.moments.entries in
    let f : FirstGroup c.in_ok-at.at ms = first_group g.T.Ord.cmp c.in_ok-at.at ms c.self.invariant
    (ap first_moment c.self.view_is ∙ sym c.next_at.ensures.moment ∙ c.in_ok-at.was) in
    cc (
      ap option_copied_mut c.in_err-together.was,
      c.get_mut.follows.claims.0,
      first_looked_up c.in_ok-at.at ms f,
    )

pub returns-in_err-together-clause-rest : goal.returns-in_err-together-clause-rest
returns-in_err-together-clause-rest g c =
    let ms = c.self.inside.moments.entries in
    let f : FirstGroup c.in_ok-at.at ms = first_group g.T.Ord.cmp c.in_ok-at.at ms c.self.invariant
    (ap first_moment c.self.view_is ∙ sym c.next_at.ensures.moment ∙ c.in_ok-at.was) in
    cc (
      ap option_copied_mut c.in_err-together.was,
      c.get_mut.follows.claims.0,
      first_looked_up c.in_ok-at.at ms f,
    )

pub invariant_of-self-in_err-item : goal.invariant_of-self-in_err-item
invariant_of-self-in_err-item g c =
    let ms = c.self.inside.moments.entries in
    let f : FirstGroup c.in_ok-at.at ms = first_group g.T.Ord.cmp c.in_ok-at.at ms c.self.invariant
    (ap first_moment c.self.view_is ∙ sym c.next_at.ensures.moment ∙ c.in_ok-at.was) in
    let same : c.in_ok-together.together.now ≡ f.item ∷ f.items =
    cc (
      ap option_copied_mut c.in_ok-together.was,
      c.get_mut.follows.claims.0,
      first_looked_up c.in_ok-at.at ms f,
    ) in
    absurd (cc (c.in_err-item.was, c.take_first.ensures.taken, ap first_item same))

pub returns-in_err-item-clause-taken : goal.returns-in_err-item-clause-taken
returns-in_err-item-clause-taken g c =
    let ms = c.self.inside.moments.entries in
    let f : FirstGroup c.in_ok-at.at ms = first_group g.T.Ord.cmp c.in_ok-at.at ms c.self.invariant
    (ap first_moment c.self.view_is ∙ sym c.next_at.ensures.moment ∙ c.in_ok-at.was) in
    let same : c.in_ok-together.together.now ≡ f.item ∷ f.items =
    cc (
      ap option_copied_mut c.in_ok-together.was,
      c.get_mut.follows.claims.0,
      first_looked_up c.in_ok-at.at ms f,
    ) in
    cc (c.in_err-item.was, c.take_first.ensures.taken, ap first_item same)

pub returns-in_err-item-clause-rest : goal.returns-in_err-item-clause-rest
returns-in_err-item-clause-rest g c =
    let ms = c.self.inside.moments.entries in
    let f : FirstGroup c.in_ok-at.at ms = first_group g.T.Ord.cmp c.in_ok-at.at ms c.self.invariant
    (ap first_moment c.self.view_is ∙ sym c.next_at.ensures.moment ∙ c.in_ok-at.was) in
    let same : c.in_ok-together.together.now ≡ f.item ∷ f.items =
    cc (
      ap option_copied_mut c.in_ok-together.was,
      c.get_mut.follows.claims.0,
      first_looked_up c.in_ok-at.at ms f,
    ) in
    cc (c.in_err-item.was, c.take_first.ensures.taken, ap first_item same)

pub invariant_of-self-then-is_empty : goal.invariant_of-self-then-is_empty
invariant_of-self-then-is_empty g c =
    let ms = c.self.inside.moments.entries in
    let place : Located c.in_ok-at.at c.in_ok-together.together.now ms =
    place_found g.T.Ord.cmp c.in_ok-at.at ms c.self.invariant c.get_mut.result
    c.get_mut.follows.claims.0 c.in_ok-together.together c.in_ok-together.was in
    rw (c.drop_moment.ensures, (c.get_mut.follows.holds c.take_first.new.self).0)
    (groups_dropped g.T.Ord.cmp c.in_ok-at.at c.in_ok-together.together.now c.take_first.new.self ms
    place c.self.invariant)

pub invariant_of-self-else-is_empty : goal.invariant_of-self-else-is_empty
invariant_of-self-else-is_empty g c =
    let ms = c.self.inside.moments.entries in
    let place : Located c.in_ok-at.at c.in_ok-together.together.now ms =
    place_found g.T.Ord.cmp c.in_ok-at.at ms c.self.invariant c.get_mut.result
    c.get_mut.follows.claims.0 c.in_ok-together.together c.in_ok-together.was in
    rw (c.get_mut.follows.holds c.take_first.new.self).0
    (groups_written g.T.Ord.cmp c.in_ok-at.at c.in_ok-together.together.now c.take_first.new.self ms
    place c.self.invariant
    (some_items c.take_first.new.self (λ e. let yes : c.is_empty.result ≡ true =
    c.is_empty.ensures.1 e in cc (c.if-is_empty.false))) c.take_first.ensures.ordered)

pub returns-clause-taken : goal.returns-clause-taken
returns-clause-taken g c =
    let ms = c.self.inside.moments.entries in
    let f : FirstGroup c.in_ok-at.at ms = first_group g.T.Ord.cmp c.in_ok-at.at ms c.self.invariant
    (ap first_moment c.self.view_is ∙ sym c.next_at.ensures.moment ∙ c.in_ok-at.was) in
    let same : c.in_ok-together.together.now ≡ f.item ∷ f.items =
    cc (
      ap option_copied_mut c.in_ok-together.was,
      c.get_mut.follows.claims.0,
      first_looked_up c.in_ok-at.at ms f,
    ) in
    let item : c.in_ok-item.item ≡ f.item = cc (
      c.in_ok-item.was,
      c.take_first.ensures.taken,
      ap first_item same,
    ) in
    ap (λ x. Some (c.in_ok-at.at, x)) item
    ∙ sym (first_due_is c.in_ok-at.at ms f c.args.t (omega arith))
    ∙ ap (first_due c.args.t) c.self.view_is

pub returns-clause-rest : goal.returns-clause-rest
returns-clause-rest g c =
    let ms = c.self.inside.moments.entries in
    let f : FirstGroup c.in_ok-at.at ms = first_group g.T.Ord.cmp c.in_ok-at.at ms c.self.invariant
    (ap first_moment c.self.view_is ∙ sym c.next_at.ensures.moment ∙ c.in_ok-at.was) in
    let same : c.in_ok-together.together.now ≡ f.item ∷ f.items =
    cc (
      ap option_copied_mut c.in_ok-together.was,
      c.get_mut.follows.claims.0,
      first_looked_up c.in_ok-at.at ms f,
    ) in
    let left : c.take_first.new.self ≡ f.items = c.take_first.ensures.rest
    ∙ ap without_first same in
    let rest : without_due c.args.t c.args.self.now ≡ entries_at c.in_ok-at.at f.items
    ++ entries_of f.rest = ap (without_due c.args.t) (sym c.self.view_is)
    ∙ without_due_is c.in_ok-at.at ms f c.args.t (omega arith) in
    elim c.if-is_empty.branch [
      | then-is_empty w ↦
          w.self-is
          ∙ ap entries_of (w.drop_moment.ensures ∙ ap (remove_entry (is_at (nat_cmp c.in_ok-at.at)))
          (c.get_mut.follows.holds c.take_first.new.self).0)
          ∙ first_dropped c.in_ok-at.at ms f c.take_first.new.self
          ∙ ap (λ xs. entries_at c.in_ok-at.at xs ++ entries_of f.rest)
          (sym (c.is_empty.ensures.0 w.if-is_empty.true) ∙ left)
          ∙ sym rest
      | else-is_empty w ↦
          w.self-is
          ∙ ap entries_of (c.get_mut.follows.holds c.take_first.new.self).0
          ∙ first_written c.in_ok-at.at ms f c.take_first.new.self
          ∙ ap (λ xs. entries_at c.in_ok-at.at xs ++ entries_of f.rest) left
          ∙ sym rest
    ]
