use Rattle.place_index.proofs.Leading.{if_none}
use Rattle.place_index.proofs.index.look.Goals as goal

pub returns-clause-none : goal.returns-clause-none
returns-clause-none g c =
    if_none c.find.result c.find.ensures.none
    (λ wrong at is_held. wrong at is_held (c.requires.reached at c.args.key.now is_held))
