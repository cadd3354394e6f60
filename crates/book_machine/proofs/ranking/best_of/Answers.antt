use Rattle.std.proofs.Common.{◌∙◌, [], List, ap, map, subst}
use Rattle.agg_types.specs.declared.config.Shape.{Shape}
use Rattle.fleet_model.specs.Keys.{Rows}
use Rattle.fleet_model.specs.State.{State}
use Rattle.fleet_model.specs.Values.{cols_of}
use Rattle.book_frame.specs.Lent.{key_and_value}
use Rattle.book_rows.specs.Store.{IsEachKeyOf}
use Rattle.book_machine.proofs.Ranks.{best_found, none_ranked}
use Rattle.book_machine.proofs.ranking.best_of.Goals as goal

pub returns-in-None : goal.returns-in-None
returns-in-None c =
    ap (map key_and_value) c.new.ensures.items
    ∙ none_ranked c.args.machine.now c.args.wanted.table c.args.wanted.col c.args.wanted.n
    c.requires.sound
    (subst (λ (rows : Rows). IsEachKeyOf rows c.args.wanted.table [])
    (ap (λ (s : State). s.rows) c.machine.view_is) c.in-None.ensures)

pub returns-in_ok-best-in-Some : goal.returns-in_ok-best-in-Some
returns-in_ok-best-in-Some c =
    c.into_keys.ensures.keys
    ∙ best_found c.args.machine.now c.args.wanted.table c.args.wanted.col c.args.wanted.n
    c.args.wanted.now c.cols_of-cols.result.now c.in-Some.walk c.in_ok-best-in-Some.best
    c.offer_each.new.best c.requires.sound
    (subst (λ (rows : Rows). IsEachKeyOf rows c.args.wanted.table c.in-Some.walk)
    (ap (λ (s : State). s.rows) c.machine.view_is) c.in-Some.ensures)
    c.requires.now
    (c.cols_of-cols.ensures
    ∙ ap (λ (tables : List Shape). cols_of tables c.args.wanted.table) c.as_slice.ensures
    ∙ ap (λ (s : State). cols_of s.config.tables c.args.wanted.table) c.machine.view_is)
    c.in_ok-best-in-Some.ensures.none c.in_ok-best-in-Some.ensures.room c.offer_each.ensures.room
    c.offer_each.ensures.keys c.into_keys.ensures.few
