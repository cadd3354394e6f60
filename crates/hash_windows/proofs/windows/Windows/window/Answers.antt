use Rattle.std.proofs.Common.{◌≤◌, [], length, subst, sym}
use Rattle.std.proofs.lemmas.List.{get_or_past}
use Rattle.segments.proofs.Joined.{past_from_none}
use Rattle.hash_windows.specs.Windows.{home}
use Rattle.hash_windows.proofs.windows.Windows.window.Goals as goal

pub returns-in-None : goal.returns-in-None
returns-in-None c =
    let past : length c.args.self.now.windows.items ≤ c.home.result =
    past_from_none c.args.self.now.windows.items c.home.result (sym c.in-None.ensures) in
    sym (get_or_past c.args.self.now.windows.items
    (home c.args.self.now.wide c.args.self.now.half (length c.args.self.now.windows.items)
    c.args.hash) []
    (subst (λ n. length c.args.self.now.windows.items ≤ n) c.home.ensures past))
