use Rattle.std.proofs.Common.{◌≡◌, ◌==◌, ◌∙◌, false, inl, sym, ap}
use Rattle.std.specs.List.{list_any}
use Rattle.agg_types.specs.declared.config.Filter.{Filter}
use Rattle.fleet_model.specs.State.{State}
use Rattle.book.proofs.ToldAll.{elsewhere_told}
use Rattle.book.proofs.Judging.{elsewhere_held}
use Rattle.book.proofs.verdicts.Verdicts.touch.Goals as goal

pub returns-then-not-has_filter-clause-held : goal.returns-then-not-has_filter-clause-held
returns-then-not-has_filter-clause-held c = λ state changes held.
    let none : list_any (λ (f : Filter). f.table == c.args.table)
    c.args.machine.now.config.filters ≡ false =
    ap (λ (s : State). list_any (λ (f : Filter). f.table == c.args.table) s.config.filters)
    (sym c.machine.view_is)
    ∙ ap (list_any (λ (f : Filter). f.table == c.args.table)) (sym c.as_slice.ensures)
    ∙ sym c.has_filter.ensures ∙ c.if-not-has_filter.true in
    elsewhere_held state c.args.machine.now c.args.table c.args.self.now.standing.filters (record {
      config = changes.config;
      moment = changes.moment;
      others = λ t other apart. changes.others t other (inl apart);
    }) none held

pub returns-then-not-has_filter-clause-flips : goal.returns-then-not-has_filter-clause-flips
returns-then-not-has_filter-clause-flips c = λ state sound changes held.
    let none : list_any (λ (f : Filter). f.table == c.args.table)
    c.args.machine.now.config.filters ≡ false =
    ap (λ (s : State). list_any (λ (f : Filter). f.table == c.args.table) s.config.filters)
    (sym c.machine.view_is)
    ∙ ap (list_any (λ (f : Filter). f.table == c.args.table)) (sym c.as_slice.ensures)
    ∙ sym c.has_filter.ensures ∙ c.if-not-has_filter.true in
    elsewhere_told state c.args.machine.now c.args.table c.args.flips.now (record {
      config = changes.config;
      moment = changes.moment;
      others = λ t other apart. changes.others t other (inl apart);
    }) none

pub judge-requires-clause-room : goal.judge-requires-clause-room
judge-requires-clause-room c = c.requires.room
    (ap (λ (s : State). list_any (λ (f : Filter). f.table == c.args.table) s.config.filters)
    (sym c.machine.view_is)
    ∙ ap (list_any (λ (f : Filter). f.table == c.args.table)) (sym c.as_slice.ensures)
    ∙ sym c.has_filter.ensures ∙ c.if-not-has_filter.false)
