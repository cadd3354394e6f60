use Rattle.std.proofs.Common.{ap, ◌∙◌, refl}
use Rattle.hub.specs.Changing.{held_behind, sets_of}
use Rattle.hub.proofs.Told.{held_now}
use Rattle.hub.proofs.laws.changes_give_the_set_now.Goals as goal

pub returns : goal.returns
returns c = λ seen early late place changes key split say.
    ap (λ events. held_behind seen.config seen.opening events place key) split
    ∙ held_now (sets_of seen.config seen.opening) place changes early late key
    (say early late split refl)
