use Rattle.std.proofs.Common.{◌≡◌, ◌==◌, ◌∙◌, false, sym, ap}
use Rattle.std.specs.List.{list_any}
use Rattle.agg_types.specs.declared.config.Filter.{Filter}
use Rattle.fleet_model.specs.State.{State}
use Rattle.book_machine.specs.Gone.{is_gone}
use Rattle.book.specs.Verdicts.{AreAll}
use Rattle.book.proofs.ToldAll.{elsewhere_told, kept_told}
use Rattle.book.proofs.Judging.{elsewhere_held, forgotten_held, kept_holds}
use Rattle.book.proofs.verdicts.Verdicts.forget.Goals as goal

pub returns-then-not-has_filter-clause-held : goal.returns-then-not-has_filter-clause-held
returns-then-not-has_filter-clause-held c = λ state changes gone held.
    let none : list_any (λ (f : Filter). f.table == c.args.table)
    c.args.machine.now.config.filters ≡ false =
    ap (λ (s : State). list_any (λ (f : Filter). f.table == c.args.table) s.config.filters)
    (sym c.machine.view_is)
    ∙ ap (list_any (λ (f : Filter). f.table == c.args.table)) (sym c.as_slice.ensures)
    ∙ sym c.has_filter.ensures ∙ c.if-not-has_filter.true in
    elsewhere_held state c.args.machine.now c.args.table c.args.self.now.standing.filters changes
    none held

pub returns-clause-held : goal.returns-clause-held
returns-clause-held c = λ state changes gone held.
    forgotten_held c.forgetting_keeps_verdicts.ensures state c.args.machine.now c.args.table
    (is_gone c.args.gone.now) c.args.self.now.standing.filters c.forget.new.standing.filters
    changes gone c.forget.ensures.forgotten held

-- ---- what the flips tell
pub returns-then-not-has_filter-clause-flips : goal.returns-then-not-has_filter-clause-flips
returns-then-not-has_filter-clause-flips c = λ state sound changes gone held.
    let none : list_any (λ (f : Filter). f.table == c.args.table)
    c.args.machine.now.config.filters ≡ false =
    ap (λ (s : State). list_any (λ (f : Filter). f.table == c.args.table) s.config.filters)
    (sym c.machine.view_is)
    ∙ ap (list_any (λ (f : Filter). f.table == c.args.table)) (sym c.as_slice.ensures)
    ∙ sym c.has_filter.ensures ∙ c.if-not-has_filter.true in
    elsewhere_told state c.args.machine.now c.args.table c.args.flips.now changes none

pub returns-clause-flips : goal.returns-clause-flips
returns-clause-flips c = λ state sound changes gone held.
    let later : State = c.args.machine.now in
    let old = c.args.self.now.standing.filters in
    let new = c.forget.new.standing.filters in
    let after : AreAll later new =
    forgotten_held c.forgetting_keeps_verdicts.ensures state later c.args.table
    (is_gone c.args.gone.now) old new changes gone c.forget.ensures.forgotten held in
    kept_told state later old new c.args.flips.now c.forget.new.flips
    (kept_holds state old sound held) (kept_holds later new c.requires.sound after)
    changes.config c.forget.ensures.flips
