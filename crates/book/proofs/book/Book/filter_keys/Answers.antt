use Rattle.std.proofs.Common.{◌<◌, ◌∙◌, length, sym, subst}
use Rattle.fleet_model.specs.Sound.{IsSound}
use Rattle.fleet_model.specs.State.{State}
use Rattle.standing_filters.specs.Watched.{keys_held, verdicts_of}
use Rattle.book.specs.Verdicts.{AreAll}
use Rattle.book.proofs.Judging.{count_held, kept_set}
use Rattle.book.proofs.book.Book.filter_keys.Goals as goal

pub keys-requires : goal.keys-requires
keys-requires c = count_held c.self.inside.machine c.self.inside.verdicts.standing c.args.filter
    c.self.invariant.held
    (subst (λ (s : State). c.args.filter < length s.config.filters) (sym c.self.view_is)
    c.requires)

pub returns : goal.returns
returns c =
    let standing = c.self.inside.verdicts.standing in
    c.keys.ensures.held
    ∙ kept_set c.args.self.now standing c.args.filter
    (keys_held (verdicts_of standing c.args.filter))
    (subst IsSound c.self.view_is c.self.invariant.sound)
    (subst (λ (s : State). AreAll s standing.filters) c.self.view_is c.self.invariant.held)
    c.requires (record { in_order = c.keys.ensures.ordered; exact = c.keys.ensures.exact })
