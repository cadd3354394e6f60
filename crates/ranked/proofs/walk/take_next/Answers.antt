use Rattle.std.proofs.Common.{ℕ, ◌+◌, ◌<◌, ◌≡◌, List, ◌∷◌, false, map, ap, sym, subst, ◌∙◌}
use Rattle.std.specs.Option.{option_map}
use Rattle.expiry_wheel.specs.Items.{AreFromFirst, without_first}
use Rattle.expiry_wheel.specs.Lent.{lent_entry}
use Rattle.ranked.specs.Walk.{AreBounds, IsWalk, counted, found, is_done}
use Rattle.ranked.specs.Walk.{view_of_candidate}
use Rattle.expiry_wheel.proofs.Left.{first_and_rest}
use Rattle.ranked.proofs.Reached.{never_undone, walk_offered, walk_passed}
use Rattle.ranked.proofs.Walking.{taken_live}
use Rattle.ranked.proofs.walk.take_next.Goals as goal

pub returns-then-live-gt0-clause-same : goal.returns-then-live-gt0-clause-same
returns-then-live-gt0-clause-same g c =
    let living : List ℕ → ℕ = λ key. g.V.Values.living c.args.values.now c.args.wanted.table
    key c.args.wanted.now in
    let value : List ℕ → ℕ = λ key. g.V.Values.summed c.args.values.now c.args.wanted.table key
    c.args.wanted.col c.args.wanted.now in
    let old = map view_of_candidate c.args.candidates.now.items in
    let new = map view_of_candidate c.offer.new.candidates.items in
    let all = first_and_rest c.args.ahead.now (c.in-Some.field-0-0, c.in-Some.key.now)
    c.in-Some.ensures.next in
    ap (λ l. found living value c.args.room new l) c.step.ensures
    ∙ taken_live living value c.args.room old new (c.in-Some.field-0-0, c.in-Some.key.now) _
    (subst (λ n. 0 < n) c.live.ensures c.if-live-gt0.true)
    (rw c.value.ensures at c.offer.ensures.offered)
    ∙ ap (λ l. found living value c.args.room old l) (sym all)

pub returns-then-live-gt0-clause-walked : goal.returns-then-live-gt0-clause-walked
returns-then-live-gt0-clause-walked g c index walked h =
    let living : List ℕ → ℕ = λ key. g.V.Values.living c.args.values.now c.args.wanted.table
    key c.args.wanted.now in
    let value : List ℕ → ℕ = λ key. g.V.Values.summed c.args.values.now c.args.wanted.table key
    c.args.wanted.col c.args.wanted.now in
    let old = map view_of_candidate c.args.candidates.now.items in
    let new = map view_of_candidate c.offer.new.candidates.items in
    let e : ℕ × List ℕ = (c.in-Some.field-0-0, c.in-Some.key.now) in
    let rest = without_first c.args.ahead.now in
    let all : c.args.ahead.now ≡ e ∷ rest =
    first_and_rest c.args.ahead.now e c.in-Some.ensures.next in
    let bounds : AreBounds living value (e ∷ rest) =
    subst (λ l. AreBounds living value l) all c.requires.bounds in
    subst (λ l. IsWalk index (counted (walked + 1)) new l) (sym c.step.ensures)
    (walk_offered index rest e old new walked c.args.room (value e.1) e.1
    (subst (λ o. is_done old o ≡ false) (sym c.in-Some.ensures.next) c.requires.undone)
    (subst (λ l. AreFromFirst l) all c.in-Some.ensures.first)
    (bounds.0 (subst (λ n. 0 < n) c.live.ensures c.if-live-gt0.true))
    (rw c.value.ensures at c.offer.ensures.offered)
    (subst (λ l. IsWalk index walked old l) all h))

pub returns-else-live-gt0-clause-walked : goal.returns-else-live-gt0-clause-walked
returns-else-live-gt0-clause-walked g c index walked h =
    let old = map view_of_candidate c.args.candidates.now.items in
    let e : ℕ × List ℕ = (c.in-Some.field-0-0, c.in-Some.key.now) in
    let rest = without_first c.args.ahead.now in
    let all : c.args.ahead.now ≡ e ∷ rest =
    first_and_rest c.args.ahead.now e c.in-Some.ensures.next in
    subst (λ l. IsWalk index (counted (walked + 1)) old l) (sym c.step.ensures)
    (walk_passed index rest e old walked
    (subst (λ o. is_done old o ≡ false) (sym c.in-Some.ensures.next) c.requires.undone)
    (subst (λ l. AreFromFirst l) all c.in-Some.ensures.first)
    (subst (λ l. IsWalk index walked old l) all h))

pub returns-in_default-clause-walked : goal.returns-in_default-clause-walked
returns-in_default-clause-walked g c index walked h =
    absurd (never_undone (map view_of_candidate c.args.candidates.now.items)
    (subst (λ o. is_done (map view_of_candidate c.args.candidates.now.items) o ≡ false)
    (sym c.peek.ensures.next ∙ ap (option_map lent_entry) c.in_default.is) c.requires.undone))
