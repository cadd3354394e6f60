use Rattle.std.proofs.Common.{sym, ◌∙◌, ◌&&◌, ap, [], ◌∷◌, refl, true, subst, ◌≡◌}
use Rattle.fleet_model.specs.Machine.{counts_now}
use Rattle.fleet_model.specs.State.{state_of}
use Rattle.hub.specs.History.{Beginning}
use Rattle.hub.proofs.Adding.{added, adds_moves, recounted}
use Rattle.hub.proofs.log.Front.add.Goals as goal
use Rattle.hub.proofs.log.Front.add.Goals.{then-found-count, else-found-count}

pub compare_exchange-found-requires : goal.compare_exchange-found-requires
compare_exchange-found-requires c =
    let h = c.log.invariant in
    let offer = c.plain-offer.ensures in
    let pen = c.no_pen-pen.ensures in
    let seen = c.self.inside.seen in
    let same : c.self.inside.seen.book ≡ c.log.inside.head.book = ap (λ b. b.of) c.self.view_is
    ∙ (sym c.requires.log ∙ sym c.log.view_is) in
    let kept = c.self.invariant.1 in
    let P : Beginning → Type 0 = λ b. counts_now (state_of b.config b.opening b.events)
    c.args.event.now ≡ true in
    let may = subst P (sym c.self.view_is) c.requires.counts in (
      ap (λ w. w.tracked) h,
      same,
      pen.0 ∙ same,
      offer.0,
      rw (ap (λ w. w.key) h, pen.1, offer.1, offer.3)
          (adds_moves seen.book seen.log (c.args.event.now ∷ []) c.self.inside.count
          (sym c.self.invariant.0) kept (ap (λ b. b && true) may)),
    )

pub invariant_of-self : goal.invariant_of-self
invariant_of-self c =
    let v = c.self.inside.seen.log in
    let told = rw c.plain-offer.ensures.1 at c.compare_exchange-found.ensures.7 in
    recounted v c.compare_exchange-found.new.seen.log (c.args.event.now ∷ [])
    c.compare_exchange-found.result c.self.inside.count c.self.invariant.1
    (sym c.self.invariant.0) told c.if-found-count.self
    (λ same. elim c.if-found-count.branch [
      | then-found-count w ↦ w.self-is
      | else-found-count w ↦
          absurd (w.if-found-count.false same)
    ])
    (λ other. elim c.if-found-count.branch [
      | then-found-count w ↦
          absurd (other w.if-found-count.true)
      | else-found-count w ↦ w.self-is
    ])

pub returns-clause-added : goal.returns-clause-added
returns-clause-added c =
    let seen = c.self.inside.seen in
    let told = rw c.plain-offer.ensures.1 at c.compare_exchange-found.ensures.7 in
    rw (← c.self.view_is) (added seen.book seen.book seen.log c.compare_exchange-found.new.seen.log
    (c.args.event.now ∷ []) c.compare_exchange-found.result c.self.inside.count c.self.invariant.1
    (sym c.self.invariant.0) c.compare_exchange-found.ensures.6 _ refl told)
