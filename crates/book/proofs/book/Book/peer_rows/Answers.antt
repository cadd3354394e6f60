use Rattle.std.proofs.Common.{◌∙◌, map, ap, sym}
use Rattle.fleet_model.specs.State.{State}
use Rattle.fleet_model.specs.Values.{cols_of}
use Rattle.book.specs.ByPeer.{peer_row, peer_rows}
use Rattle.book.proofs.ByPeer.{live_rows}
use Rattle.book.proofs.book.Book.peer_rows.Goals as goal

pub returns : goal.returns
returns c =
    let state = c.self.inside.machine in
    c.of.ensures
    ∙ ap (map (peer_row (cols_of state.config.tables c.args.table) state.moment))
    (sym (live_rows state c.args.table c.args.key.now c.self.invariant.sound.live))
    ∙ ap (λ (s : State). peer_rows s c.args.table c.args.key.now) c.self.view_is
