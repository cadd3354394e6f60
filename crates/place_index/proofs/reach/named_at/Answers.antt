use Rattle.std.proofs.Common.{◌∙◌}
use Rattle.std.proofs.lemmas.Option.{none-some, same_Some}
use Rattle.place_index.proofs.Leading.{if_none}
use Rattle.hash_windows.specs.Windows.{word_of}
use Rattle.place_index.proofs.reach.named_at.Goals as goal

pub returns-in-Some-clause-none : goal.returns-in-Some-clause-none
returns-in-Some-clause-none g c =
    if_none c.named_by.result c.named_by.ensures.none
    (λ wrong at is_held is.
    wrong at is_held (same_Some c.in-Some.word.now (word_of c.args.hash at)
    (c.in-Some.ensures ∙ is)))

pub returns-in-None-clause-none : goal.returns-in-None-clause-none
returns-in-None-clause-none g c =
    λ at is_held is. none-some (word_of c.args.hash at) (c.in-None.ensures ∙ is)
