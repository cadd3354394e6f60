use Rattle.std.proofs.Common.{◌≡◌, ◌≤◌, ◌∙◌, List, ap, arith, map, sym, subst, take}
use Rattle.agg_types.specs.declared.config.Rank.{Rank}
use Rattle.fleet_model.specs.Ranking.{ranked}
use Rattle.fleet_model.specs.State.{State}
use Rattle.book_frame.specs.Lent.{key_and_value}
use Rattle.ranked.specs.Leaders.{bounds_of}
use Rattle.book_machine.specs.Leading.{AreLed, rank_at}
use Rattle.book_machine.proofs.FirstKeys.{first_is, list_bounded, lists_short, take_fewer}
use Rattle.book_machine.proofs.Ranks.{ranked_from}
use Rattle.book_machine.proofs.machine.Machine.top.Goals as goal

pub looks_at_most-requires-clause-short : goal.looks_at_most-requires-clause-short
looks_at_most-requires-clause-short c =
    let rank : c.rank_at-rank.result.now ≡ rank_at c.args.self.now.config.ranks c.args.list =
    c.rank_at-rank.ensures ∙ ap (λ (ranks : List Rank). rank_at ranks c.args.list)
    c.as_slice.ensures ∙ ap (λ (s : State). rank_at s.config.ranks c.args.list)
    c.self.view_is in
    let short : c.rank_at-rank.result.now.n ≤ 1000 =
    subst (λ (r : Rank). r.n ≤ 1000) (sym rank) (lists_short c.args.self.now.config c.args.list
    c.requires.there c.requires.sound.checked) in
    omega (arith, short, c.min.ensures)

pub top-requires-clause-short : goal.top-requires-clause-short
top-requires-clause-short c =
    let rank : c.rank_at-rank.result.now ≡ rank_at c.args.self.now.config.ranks c.args.list =
    c.rank_at-rank.ensures ∙ ap (λ (ranks : List Rank). rank_at ranks c.args.list)
    c.as_slice.ensures ∙ ap (λ (s : State). rank_at s.config.ranks c.args.list)
    c.self.view_is in
    let short : c.rank_at-rank.result.now.n ≤ 1000 =
    subst (λ (r : Rank). r.n ≤ 1000) (sym rank) (lists_short c.args.self.now.config c.args.list
    c.requires.there c.requires.sound.checked) in
    omega (arith, short, c.min.ensures)

pub best_of-requires-clause-short : goal.best_of-requires-clause-short
best_of-requires-clause-short c =
    let rank : c.rank_at-rank.result.now ≡ rank_at c.args.self.now.config.ranks c.args.list =
    c.rank_at-rank.ensures ∙ ap (λ (ranks : List Rank). rank_at ranks c.args.list)
    c.as_slice.ensures ∙ ap (λ (s : State). rank_at s.config.ranks c.args.list)
    c.self.view_is in
    let short : c.rank_at-rank.result.now.n ≤ 1000 =
    subst (λ (r : Rank). r.n ≤ 1000) (sym rank) (lists_short c.args.self.now.config c.args.list
    c.requires.there c.requires.sound.checked) in
    omega (arith, short, c.min.ensures)

pub returns-then-near : goal.returns-then-near
returns-then-near c =
    let state : State = c.args.self.now in
    let lists = c.self.inside.leaders in
    let rank : c.rank_at-rank.result.now ≡ rank_at state.config.ranks c.args.list =
    c.rank_at-rank.ensures ∙ ap (λ (ranks : List Rank). rank_at ranks c.args.list)
    c.as_slice.ensures ∙ ap (λ (s : State). rank_at s.config.ranks c.args.list)
    c.self.view_is in
    let now : c.self.inside.moment ≡ state.moment = ap (λ (s : State). s.moment) c.self.view_is in
    let led : AreLed state.config.tables state.config.ranks state.rows state.moment lists =
    subst (λ (s : State). AreLed s.config.tables s.config.ranks s.rows s.moment lists)
    c.self.view_is c.self.invariant.led in
    c.in_ok-top.ensures.list
    ∙ take_fewer c.min.result c.args.most c.rank_at-rank.result.now.n _ c.min.ensures
    ∙ ap (take c.args.most)
    (first_is state c.rank_at-rank.result.now (bounds_of lists c.args.list) c.self.inside.moment
    c.requires.sound.ordered c.top.ensures.ordered c.requires.sound.in_range now
    (list_bounded state lists c.args.list c.self.inside.moment c.rank_at-rank.result.now led
    c.requires.there c.requires.sound.in_range now rank)
    ∙ ap (λ (r : Rank). ranked state r) rank)

pub returns : goal.returns
returns c =
    let state : State = c.args.self.now in
    let rank : c.rank_at-rank.result.now ≡ rank_at state.config.ranks c.args.list =
    c.rank_at-rank.ensures ∙ ap (λ (ranks : List Rank). rank_at ranks c.args.list)
    c.as_slice.ensures ∙ ap (λ (s : State). rank_at s.config.ranks c.args.list)
    c.self.view_is in
    ap (map key_and_value) c.into_iter.ensures.rest
    ∙ c.in_ok-best.ensures
    ∙ take_fewer c.min.result c.args.most c.rank_at-rank.result.now.n _ c.min.ensures
    ∙ ap (take c.args.most) (ranked_from state c.rank_at-rank.result.now
    ∙ ap (λ (r : Rank). ranked state r) rank)
