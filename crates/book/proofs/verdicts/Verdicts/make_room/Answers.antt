use Rattle.std.proofs.Common.{◌≡◌, ◌==◌, ◌∙◌, false, sym, ap}
use Rattle.std.proofs.lemmas.Bool.{false≢true}
use Rattle.std.specs.List.{list_any}
use Rattle.agg_types.specs.declared.config.Filter.{Filter}
use Rattle.fleet_model.specs.State.{State}
use Rattle.book.proofs.verdicts.Verdicts.make_room.Goals as goal

pub returns-then-not-has_filter-clause-room : goal.returns-then-not-has_filter-clause-room
returns-then-not-has_filter-clause-room c = λ some.
    let none : list_any (λ (f : Filter). f.table == c.args.table)
    c.args.machine.now.config.filters ≡ false =
    ap (λ (s : State). list_any (λ (f : Filter). f.table == c.args.table) s.config.filters)
    (sym c.machine.view_is)
    ∙ ap (list_any (λ (f : Filter). f.table == c.args.table)) (sym c.as_slice.ensures)
    ∙ sym c.has_filter.ensures ∙ c.if-not-has_filter.true in
    absurd (false≢true (sym none ∙ some))
