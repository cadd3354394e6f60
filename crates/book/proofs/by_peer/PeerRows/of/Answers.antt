use Rattle.std.proofs.Common.{◌∙◌, ℕ, List, map, ap}
use Rattle.agg_types.specs.declared.column.Col.{Col}
use Rattle.agg_types.specs.declared.config.Shape.{Shape}
use Rattle.fleet_model.specs.Keys.{key_rows}
use Rattle.fleet_model.specs.State.{State}
use Rattle.fleet_model.specs.Values.{cols_of}
use Rattle.book.specs.ByPeer.{peer_row}
use Rattle.book.proofs.ByPeer.{rows_told}
use Rattle.book.proofs.by_peer.PeerRows.of.Goals as goal

pub returns : goal.returns
returns c =
    let table = c.args.table in
    let key = c.args.key.now in
    let own = key_rows c.machine.inside.rows.rows table key in
    c.new.ensures
    ∙ rows_told _ c.machine.inside.moment c.machine.inside.rows.rows table key c.of_key.result
    c.of_key.ensures.value
    ∙ ap (λ (cols : List (Col × ℕ)). map (peer_row cols c.machine.inside.moment) own)
    (c.cols_of-cols.ensures ∙ ap (λ (tables : List Shape). cols_of tables table) c.as_slice.ensures)
    ∙ ap (λ (s : State). map (peer_row (cols_of s.config.tables table) s.moment)
    (key_rows s.rows table key)) c.machine.view_is
