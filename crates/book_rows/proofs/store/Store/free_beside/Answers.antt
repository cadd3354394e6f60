use Rattle.std.proofs.Common.{◌≡◌, ◌-◌, ◌≤◌, Bool, ◌&&◌, ◌==◌, nat_lt, ap, ◌∙◌, subst, arith}
use Rattle.std.specs.List.{count_by}
use Rattle.agg_types.specs.declared.row_key.RowKey.{RowKey}
use Rattle.fleet_model.specs.Keys.{held_rows}
use Rattle.fleet_model.specs.declared.arrival.Arrival.{Arrival}
use Rattle.book_rows.specs.Store.{InForce}
use Rattle.book_rows.proofs.Together.{less_more, none_yet, of_all_peers, of_no_peer, one_peer_more}
use Rattle.book_rows.proofs.store.Store.free_beside.Goals as goal

pub loop-peer-init : goal.loop-peer-init
loop-peer-init c = none_yet c.args.most _ (of_no_peer c.args.table c.args.self.now.rows)

pub loop-peer-preserved : goal.loop-peer-preserved
loop-peer-preserved c =
    let table = c.args.table in
    let peer = c.loop-peer.peer in
    let held : c.held.result ≡ held_rows c.args.self.now.rows table peer = c.held.ensures.count in
    let next : c.saturating_sub-free.result ≡ c.loop-peer.free - c.held.result =
    c.saturating_sub-free.ensures in
    less_more c.args.most c.loop-peer.free c.saturating_sub-free.result _
    (held_rows c.args.self.now.rows table peer) _ c.loop-peer.invariant
    (next ∙ ap (λ n. c.loop-peer.free - n) held)
    (one_peer_more table peer c.args.self.now.rows)

pub returns : goal.returns
returns c =
    let first : RowKey × Arrival → Bool =
    λ row. (row.0.table == c.args.table) && nat_lt row.0.peer c.loop-peer.peer in
    let all : RowKey × Arrival → Bool = λ row. row.0.table == c.args.table in
    let left : c.loop-peer.free ≡ c.args.most - count_by first c.args.self.now.rows =
    c.loop-peer.invariant in
    let past : c.self.inside.size.peers ≤ c.loop-peer.peer = omega arith in
    let whole : count_by first c.args.self.now.rows ≡ count_by all c.args.self.now.rows =
    subst (λ (s : InForce). count_by first s.rows ≡ count_by all s.rows) c.self.view_is
    (of_all_peers c.self.inside.size.peers c.self.inside.size.tables c.args.table
    c.loop-peer.peer past c.self.inside.rows.entries c.self.invariant.inside) in
    left ∙ ap (λ n. c.args.most - n) whole
