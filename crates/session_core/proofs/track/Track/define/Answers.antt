use Rattle.std.proofs.Common.{◌≡◌, ◌≤◌, length, sym, ap}
use Rattle.session_core.specs.Tracked.{Tracked}
use Rattle.session_core.proofs.UndoLemmas.{added}
use Rattle.session_core.proofs.track.Track.define.Goals as goal

pub returns-in_ok-insert-in-None-clause-undo : goal.returns-in_ok-insert-in-None-clause-undo
returns-in_ok-insert-in-None-clause-undo c =
    let le : c.place-at.result ≤ length c.self.inside.entries.items = rw c.as_slice.ensures.value
    at c.place-at.ensures.within in
    let same : c.args.self.now.entries ≡ c.self.inside.entries.items =
    ap (λ (t : Tracked). t.entries) (sym c.self.view_is) in
    rw (
      c.push_reserved.ensures.items,
      c.in_ok-reserve-in-None.ensures.items,
      c.in_ok-insert-in-None.ensures.items,
      same,
    ) (added c.args.changes.now.items c.place-at.result _ c.self.inside.entries.items le)
