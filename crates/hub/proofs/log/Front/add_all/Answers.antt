use Rattle.std.proofs.Common.{ℕ, ◌+◌, length, sym, ◌∙◌, ap, refl, true, subst, ◌≡◌, ◌==◌, None}
use prog.Atomic.{either}
use Rattle.logbook.specs.Pages.{no_nib, step, Moves}
use Rattle.book.proofs.Updates.{length-numbered}
use Rattle.fleet_model.specs.State.{state_of}
use Rattle.hub.specs.Batches.{events_in}
use Rattle.hub.specs.declared.entry.Entry.TheVariants.{Happened}
use Rattle.hub.specs.History.{Beginning, all_count}
use Rattle.hub.specs.Law.{Adds, IsKept}
use Rattle.hub.proofs.Adding.{added, adds_moves, moved, recounted, shown}
use Rattle.hub.proofs.log.Front.add_all.Goals as goal
use Rattle.hub.proofs.log.Front.add_all.Goals.{then-found-count, else-found-count}

pub compare_exchange-found-requires : goal.compare_exchange-found-requires
compare_exchange-found-requires c =
    let h = c.log.invariant in
    let offer = c.plain-offer.ensures in
    let pen = c.no_pen-pen.ensures in
    let seen = c.self.inside.seen in
    let same : c.self.inside.seen.book ≡ c.log.inside.head.book = ap (λ b. b.of) c.self.view_is
    ∙ (sym c.requires.log ∙ sym c.log.view_is) in
    let b = c.args.batch.now in
    let es = events_in b in
    let old = c.self.inside.count in
    let P : Beginning → Type 0 = λ b. all_count (state_of b.config b.opening b.events) es ≡ true in
    let may = subst P (sym c.self.view_is) c.requires.counts in
    let later : old + length es ≡ old + length b.whats =
    ap (λ n. old + n) (length-numbered b.seat b.first b.whats) in
    let M : ℕ → Type 0 = λ later. Moves IsKept shown moved 0 (seen.log, (no_nib, None))
    (λ n. either (n == old) later n)
    (Adds (step 0 old later (Happened es)) (seen.log, (no_nib, None))) in (
      ap (λ w. w.tracked) h,
      same,
      pen.0 ∙ same,
      offer.0,
      rw (ap (λ w. w.key) h, pen.1, offer.1, offer.3, c.len.ensures.count)
          (subst M later (adds_moves seen.book seen.log es old (sym c.self.invariant.0)
          c.self.invariant.1 may)),
    )

pub invariant_of-self : goal.invariant_of-self
invariant_of-self c =
    let v = c.self.inside.seen.log in
    let b = c.args.batch.now in
    let told = rw c.plain-offer.ensures.1 at c.compare_exchange-found.ensures.7 in
    recounted v c.compare_exchange-found.new.seen.log (events_in b)
    c.compare_exchange-found.result c.self.inside.count c.self.invariant.1
    (sym c.self.invariant.0) told c.if-found-count.self
    (λ same. elim c.if-found-count.branch [
      | then-found-count w ↦ w.self-is ∙ (ap (λ n. c.self.inside.count + n) (c.len.ensures.count
          ∙ sym (length-numbered b.seat b.first b.whats)))
      | else-found-count w ↦
          absurd (w.if-found-count.false same)
    ])
    (λ other. elim c.if-found-count.branch [
      | then-found-count w ↦
          absurd (other w.if-found-count.true)
      | else-found-count w ↦ w.self-is
    ])

pub returns-clause-added : goal.returns-clause-added
returns-clause-added c =
    let seen = c.self.inside.seen in
    let told = rw c.plain-offer.ensures.1 at c.compare_exchange-found.ensures.7 in
    rw (← c.self.view_is) (added seen.book seen.book seen.log c.compare_exchange-found.new.seen.log
    (events_in c.args.batch.now) c.compare_exchange-found.result c.self.inside.count
    c.self.invariant.1 (sym c.self.invariant.0) c.compare_exchange-found.ensures.6 _ refl told)
