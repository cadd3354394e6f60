use Rattle.std.proofs.Common.{◌≡◌, ◌+◌, ◌==◌, List, ◌∷◌, map, sym, ap, subst, ◌∙◌, inl, inr, true}
use Rattle.std.proofs.Common.{arith}
use Rattle.std.proofs.lemmas.Bool.{eqb-true}
use Rattle.standing_filters.specs.Flips.{TellsFrom, holding}
use Rattle.standing_filters.specs.Plans.{Watching, kept_by, view_of_watch}
use Rattle.standing_filters.specs.Watched.{AreTouched, filters_of, verdict_at}
use Rattle.standing_filters.specs.Ready.{HaveRoom}
use Rattle.standing_filters.proofs.Readying.{copies_for, counted, not_counted}
use Rattle.standing_filters.proofs.Said.{at_none, from_first, from_none, noted_becomes}
use Rattle.standing_filters.proofs.Touched.{touched}
use Rattle.standing_filters.proofs.touching.+touch_each.Goals as goal

pub returns-then-not-is_of-clause-copies : goal.returns-then-not-is_of-clause-copies
returns-then-not-is_of-clause-copies g t c = λ more ready.
    let same = not_counted c.args.table c.args.watches.now c.in-Some.first.now c.in-Some.rest.now
    c.in-Some.ensures.cases.0 (sym c.is_of.ensures ∙ c.if-not-is_of.true) in
    c.touch_each.ensures.copies more (copies_for c.args.key.now _ _ c.args.copies.now.items
    (ap (λ n. more + n) same) ready)

pub change-held-requires-clause-room : goal.change-held-requires-clause-room
change-held-requires-clause-room g t c = λ not_out.
    let first = c.in-Some.first.now in
    let rest = c.in-Some.rest.now in
    let is_of : (first.filter.table == c.args.table) ≡ true =
    sym c.is_of.ensures ∙ c.if-not-is_of.false in
    elim c.requires.room [
      | inl dead ↦ absurd (not_out (c.judge-verdict.ensures.dead
          (subst (λ table. g.V.Values.living c.args.values.now table c.args.key.now c.args.now ≡ 0)
          (sym (eqb-true first.filter.table c.args.table is_of)) dead)))
      | inr room ↦
          let all = subst (HaveRoom 1 c.args.table) c.in-Some.ensures.cases.0 room.room in
          let count = counted c.args.table c.args.watches.now first rest
          c.in-Some.ensures.cases.0 is_of in (
            omega (all.0 (eqb-true first.filter.table c.args.table is_of), arith),
            elim room.copied [
              | inl short ↦ inl short
              | inr made ↦ inr (c.touch_each.ensures.copies 1 (copies_for c.args.key.now _ _
                  c.args.copies.now.items count made))
            ],
          )
    ]

-- ---- what room is left
pub returns-then-not-is_of-clause-room_left : goal.returns-then-not-is_of-clause-room_left
returns-then-not-is_of-clause-room_left g t c = λ count other room.
    let all = subst (HaveRoom (count + 1) other) c.in-Some.ensures.cases.0 room in (
      λ of. omega (all.0 of, arith),
      c.touch_each.ensures.room_left count other all.1,
    )

pub returns-clause-room_left : goal.returns-clause-room_left
returns-clause-room_left g t c = λ count other room.
    let all = subst (HaveRoom (count + 1) other) c.in-Some.ensures.cases.0 room in (
      λ of. omega (
        all.0 (ap (λ f. f.table) (sym c.change-held.ensures.filter) ∙ of),
        c.change-held.ensures.room_left,
        arith,
      ),
      c.touch_each.ensures.room_left count other all.1,
    )

pub returns-clause-copies : goal.returns-clause-copies
returns-clause-copies g t c = λ more ready.
    let count = counted c.args.table c.args.watches.now c.in-Some.first.now c.in-Some.rest.now
    c.in-Some.ensures.cases.0 (sym c.is_of.ensures ∙ c.if-not-is_of.false) in
    c.change-held.ensures.copies more (c.touch_each.ensures.copies (more + 1)
    (copies_for c.args.key.now
    (more + filters_of c.args.table (map view_of_watch c.args.watches.now))
    (more + 1 + filters_of c.args.table (map view_of_watch c.in-Some.rest.now))
    c.args.copies.now.items (omega (count, arith)) ready))

pub returns-clause-touched : goal.returns-clause-touched
returns-clause-touched g t c =
    let summed = g.V.Values.summed c.args.values.now in
    let living = g.V.Values.living c.args.values.now in
    let first = c.in-Some.first.now in
    let of = eqb-true first.filter.table c.args.table (sym c.is_of.ensures
    ∙ c.if-not-is_of.false) in
    subst (λ (l : List Watching). AreTouched summed living c.args.table c.args.key.now c.args.now
    (map view_of_watch l) (view_of_watch c.change-held.new.self ∷ map view_of_watch
    c.touch_each.new.watches)) (sym c.in-Some.ensures.cases.0) (
      touched summed living c.args.table c.args.key.now c.args.now first c.change-held.new.self
          c.judge-verdict.result of c.change-held.ensures.filter c.judge-verdict.ensures.verdict
          c.change-held.ensures.kept,
      c.touch_each.ensures.touched,
    )

-- ---- what the flips tell
pub returns-in_default-clause-flips : goal.returns-in_default-clause-flips
returns-in_default-clause-flips g t c = λ known.
    from_none c.args.at (map view_of_watch c.args.watches.now) c.args.flips.now known

pub returns-then-not-is_of-clause-flips : goal.returns-then-not-is_of-clause-flips
returns-then-not-is_of-clause-flips g t c = λ known.
    let first = c.in-Some.first.now in
    let last = c.touch_each.new.flips in
    subst (λ (l : List Watching). TellsFrom c.args.at (holding (map view_of_watch l))
    (holding (view_of_watch first ∷ map view_of_watch c.touch_each.new.watches)) c.args.flips.now
    last) (sym c.in-Some.ensures.cases.0)
    (from_first c.args.at (view_of_watch first) (view_of_watch first)
    (map view_of_watch c.in-Some.rest.now) (map view_of_watch c.touch_each.new.watches)
    c.args.flips.now last last (c.touch_each.ensures.flips known)
    (at_none c.args.at (λ key. (verdict_at (kept_by first) key).holds) last known))

pub returns-clause-flips : goal.returns-clause-flips
returns-clause-flips g t c = λ known.
    let first = c.in-Some.first.now in
    let made = c.change-held.new.self in
    let told = c.touch_each.new in
    let noted = c.note.ensures known in
    let last = c.note.new.self in
    subst (λ (l : List Watching). TellsFrom c.args.at (holding (map view_of_watch l))
    (holding (view_of_watch made ∷ map view_of_watch told.watches)) c.args.flips.now last)
    (sym c.in-Some.ensures.cases.0)
    (from_first c.args.at (view_of_watch first) (view_of_watch made)
    (map view_of_watch c.in-Some.rest.now) (map view_of_watch told.watches) c.args.flips.now
    told.flips last (c.touch_each.ensures.flips noted.known)
    (noted_becomes c.args.at c.args.key.now c.judge-verdict.result c.change-held.result
    (kept_by first) (kept_by made) told.flips last noted c.change-held.ensures.was
    c.change-held.ensures.kept))
