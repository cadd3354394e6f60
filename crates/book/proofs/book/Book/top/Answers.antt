use Rattle.std.proofs.Common.{◌≤◌, ◌-◌, ◌^◌, ◌∙◌, ap, arith, subst, take}
use Rattle.std.proofs.lemmas.Result.{IfOk-weaker}
use Rattle.fleet_model.specs.Ranking.{rank_of, ranked}
use Rattle.fleet_model.specs.Sound.{IsSound}
use Rattle.fleet_model.specs.State.{State}
use Rattle.book_machine.proofs.FirstKeys.{all_ranked, lists_short}
use Rattle.book.proofs.book.Book.top.Goals as goal

pub returns : goal.returns
returns c =
    let state : State = c.args.self.now in
    let sound : IsSound state = subst IsSound c.self.view_is c.self.invariant.sound in
    let short : (rank_of state c.args.rank).n ≤ 1000 =
    lists_short state.config c.args.rank c.requires sound.checked in
    IfOk-weaker c.top.result _ _ (λ found is. is
    ∙ ap (λ (s : State). take (2 ^ 64 - 1) (ranked s (rank_of s c.args.rank))) c.self.view_is
    ∙ all_ranked state (rank_of state c.args.rank) (2 ^ 64 - 1) (omega (arith, short)))
    c.top.ensures
