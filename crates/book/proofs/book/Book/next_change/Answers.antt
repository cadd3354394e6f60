use Rattle.std.proofs.Common.{◌<◌, length, sym, subst}
use Rattle.fleet_model.specs.Sound.{IsSound}
use Rattle.fleet_model.specs.State.{State}
use Rattle.book.specs.Verdicts.{AreAll}
use Rattle.book.proofs.Judging.{count_held, kept_next}
use Rattle.book.proofs.book.Book.next_change.Goals as goal

pub next_change-requires : goal.next_change-requires
next_change-requires c = count_held c.self.inside.machine c.self.inside.verdicts.standing
    c.args.filter c.self.invariant.held
    (subst (λ (s : State). c.args.filter < length s.config.filters) (sym c.self.view_is)
    c.requires)

pub returns : goal.returns
returns c =
    let standing = c.self.inside.verdicts.standing in
    kept_next c.first_change_is_the_sets.ensures c.args.self.now standing c.args.filter
    c.next_change.result (subst IsSound c.self.view_is c.self.invariant.sound)
    (subst (λ (s : State). AreAll s standing.filters) c.self.view_is c.self.invariant.held)
    c.requires c.next_change.ensures
