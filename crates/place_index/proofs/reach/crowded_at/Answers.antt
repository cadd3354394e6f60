use Rattle.std.proofs.Common.{◌≡◌, ◌∙◌, Some, sym, subst}
use Rattle.std.proofs.lemmas.Option.{none-some, same_Some}
use Rattle.place_index.proofs.Leading.{if_none}
use Rattle.place_index.specs.Places.{key_at}
use Rattle.place_index.specs.Slots.{held}
use Rattle.place_index.proofs.reach.crowded_at.Goals as goal

pub returns-in-Some-clause-none : goal.returns-in-Some-clause-none
returns-in-Some-clause-none g c =
    if_none c.checked.result c.checked.ensures.none
    (λ wrong at is_held crowded.
    wrong (subst
    (λ n. key_at (held g.K.IndexKey.is_blank c.args.slots.now) n ≡ Some c.args.key.now)
    (same_Some at c.in-Some.at (sym (c.get.ensures at crowded) ∙ c.in-Some.is)) is_held))

pub returns-in-None-clause-none : goal.returns-in-None-clause-none
returns-in-None-clause-none g c =
    λ at is_held crowded. none-some at (sym c.in-None.is ∙ c.get.ensures at crowded)
