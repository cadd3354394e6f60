use Rattle.std.proofs.Common.{◌∙◌, ◌≤◌, length, sym, ap, subst, arith}
use Rattle.std.specs.Prelude.{map}
use Rattle.fleet_model.specs.Keys.{key_rows}
use Rattle.book_rows.specs.Shown.{of_peer}
use Rattle.book_rows.specs.Store.{InForce}
use Rattle.book_rows.proofs.Reading.{few_peers, no_rows, peers_shown}
use Rattle.book_rows.proofs.store.Store.of_key_at.Goals as goal

pub returns-then-table-self-clause-value : goal.returns-then-table-self-clause-value
returns-then-table-self-clause-value c =
    ap (map (of_peer c.args.table c.args.key.now)) c.of_key_at.ensures.value
    ∙ peers_shown c.args.table c.args.key.now c.self.inside.rows.entries
    ∙ ap (λ (s : InForce). key_rows s.rows c.args.table c.args.key.now) c.self.view_is

pub returns-then-table-self-clause-few : goal.returns-then-table-self-clause-few
returns-then-table-self-clause-few c =
    let few : length c.of_key_at.result ≤ c.self.inside.size.peers =
    subst (λ (rows : _). length rows ≤ c.self.inside.size.peers) (sym c.of_key_at.ensures.value)
    (few_peers c.self.inside.size.peers c.self.inside.size.tables c.self.inside.rows
    c.args.table c.args.key.now c.self.invariant) in
    subst (λ (s : InForce). length c.of_key_at.result ≤ s.peers) c.self.view_is few

pub returns-else-table-self-clause-value : goal.returns-else-table-self-clause-value
returns-else-table-self-clause-value c =
    sym (ap (λ (s : InForce). key_rows s.rows c.args.table c.args.key.now) c.self.view_is)
    ∙ no_rows c.self.inside.size.peers c.self.inside.size.tables c.args.table c.args.key.now
    c.self.inside.rows.entries (omega arith) c.self.invariant.inside
