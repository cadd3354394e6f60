use Rattle.logged_keys.proofs.Sharing.{shared_empty}
use Rattle.logged_keys.proofs.round.Round.+add_each.Goals as goal

pub returns-in-empty-clause-shared : goal.returns-in-empty-clause-shared
returns-in-empty-clause-shared t c =
    shared_empty c.args.found.now c.args.self.now c.in-empty.len_below
