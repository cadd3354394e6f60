use Rattle.std.proofs.Common.{refl}
use Rattle.logged_keys.proofs.Sharing.{shared_unknown}
use Rattle.logged_keys.proofs.round.Round.add.Goals as goal

pub returns-in_default-clause-shared : goal.returns-in_default-clause-shared
returns-in_default-clause-shared c =
    shared_unknown c.args.found.now c.args.self.now
    (record { told = c.args.self.now.told; left_out = c.push.new.self }) c.in_default.is refl
    c.in_ok-push.ensures.items
