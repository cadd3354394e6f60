use Rattle.std.proofs.Common.{List, ◌∷◌, map, sym, ◌∙◌, subst}
use Rattle.standing_filters.specs.Flips.{TellsFrom, holding}
use Rattle.standing_filters.specs.Plans.{Watching, kept_by, view_of_watch}
use Rattle.standing_filters.specs.Watched.{AreForgotten, is_among, verdict_at}
use Rattle.standing_filters.proofs.Forgotten.{forgotten_elsewhere, forgotten_here}
use Rattle.standing_filters.proofs.Said.{at_none, from_first, from_none}
use Rattle.standing_filters.proofs.forgetting.+forget_each.Goals as goal

pub returns-then-not-is_of-clause-forgotten : goal.returns-then-not-is_of-clause-forgotten
returns-then-not-is_of-clause-forgotten t c =
    let first = c.in-Some.first.now in
    subst (λ (l : List Watching). AreForgotten c.args.table (is_among c.args.keys.now)
    (map view_of_watch l) (view_of_watch first ∷ map view_of_watch c.forget_each.new.watches))
    (sym c.in-Some.ensures.cases.0) (
      forgotten_elsewhere c.args.table (is_among c.args.keys.now) first
          (sym c.is_of.ensures ∙ c.if-not-is_of.true),
      c.forget_each.ensures.forgotten,
    )

pub returns-clause-forgotten : goal.returns-clause-forgotten
returns-clause-forgotten t c =
    let first = c.in-Some.first.now in
    subst (λ (l : List Watching). AreForgotten c.args.table (is_among c.args.keys.now)
    (map view_of_watch l)
    (view_of_watch c.forget_keys.new.watch ∷ map view_of_watch c.forget_each.new.watches))
    (sym c.in-Some.ensures.cases.0) (
      forgotten_here c.args.table (is_among c.args.keys.now) first c.forget_keys.new.watch
          (sym c.is_of.ensures ∙ c.if-not-is_of.false) c.forget_keys.ensures.filter
          c.forget_keys.ensures.kept,
      c.forget_each.ensures.forgotten,
    )

-- ---- what the flips tell
pub returns-in_default-clause-flips : goal.returns-in_default-clause-flips
returns-in_default-clause-flips t c = λ known.
    from_none c.args.at (map view_of_watch c.args.watches.now) c.args.flips.now known

pub returns-then-not-is_of-clause-flips : goal.returns-then-not-is_of-clause-flips
returns-then-not-is_of-clause-flips t c = λ known.
    let first = c.in-Some.first.now in
    let last = c.forget_each.new.flips in
    subst (λ (l : List Watching). TellsFrom c.args.at (holding (map view_of_watch l))
    (holding (view_of_watch first ∷ map view_of_watch c.forget_each.new.watches))
    c.args.flips.now last) (sym c.in-Some.ensures.cases.0)
    (from_first c.args.at (view_of_watch first) (view_of_watch first)
    (map view_of_watch c.in-Some.rest.now) (map view_of_watch c.forget_each.new.watches)
    c.args.flips.now last last (c.forget_each.ensures.flips known)
    (at_none c.args.at (λ key. (verdict_at (kept_by first) key).holds) last known))

pub returns-clause-flips : goal.returns-clause-flips
returns-clause-flips t c = λ known.
    let first = c.in-Some.first.now in
    let made = c.forget_keys.new.watch in
    let others = c.forget_each.new in
    let last = c.forget_keys.new.flips in
    let told = c.forget_keys.ensures.flips known in
    subst (λ (l : List Watching). TellsFrom c.args.at (holding (map view_of_watch l))
    (holding (view_of_watch made ∷ map view_of_watch others.watches)) c.args.flips.now last)
    (sym c.in-Some.ensures.cases.0)
    (from_first c.args.at (view_of_watch first) (view_of_watch made)
    (map view_of_watch c.in-Some.rest.now) (map view_of_watch others.watches) c.args.flips.now
    others.flips last (c.forget_each.ensures.flips told.known) told)
