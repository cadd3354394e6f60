use Rattle.std.proofs.Common.{◌≡◌, ◌≤◌, ◌∙◌, Some, ap, length, sym, subst}
use Rattle.place_index.specs.Places.{laid}
use Rattle.standing_filters.specs.Marked.{AreMarked, is_marked}
use Rattle.standing_filters.proofs.Marking.{if_ok_at, marked_laid}
use Rattle.standing_filters.proofs.marked.MarkedVerdicts.insert.Goals as goal

pub invariant_of-self : goal.invariant_of-self
invariant_of-self c =
    let at = c.unwrap-at.result in
    let old = c.self.inside.verdicts.places in
    let after = if_ok_at (λ a. c.insert.new.self.places ≡ laid old a (Some (
      c.args.key,
      c.args.verdict,
    ))) c.insert.result at c.unwrap-at.ensures c.insert.ensures.ok in
    let within = if_ok_at (λ a. a ≤ length old) c.insert.result at c.unwrap-at.ensures
    c.insert.ensures.bound in
    subst (AreMarked c.mark.new.self) (sym after)
    (marked_laid c.self.inside.marks c.mark.new.self old at c.args.key c.args.verdict within
    (ap (is_marked c.mark.new.self) (sym c.hash_of.ensures) ∙ c.mark.ensures.this)
    c.mark.ensures.others c.self.invariant)
