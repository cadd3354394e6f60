use Rattle.std.proofs.Common.{sym}
use Rattle.hash_windows.proofs.Words.{none_there}
use Rattle.hash_windows.proofs.windows.Windows.window_at.Goals as goal

pub returns-in-None : goal.returns-in-None
returns-in-None c =
    λ word there. absurd (none_there c.args.self.now.windows.items c.args.number word
    (sym c.in-None.ensures) there)
