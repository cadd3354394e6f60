use Rattle.std.proofs.lemmas.List.{length-map}
use Rattle.peer_rows.specs.Ends.{ended}
use Rattle.peer_rows.specs.Rows.{AreTables}
use Rattle.peer_rows.proofs.Living.{placed_ended, tables_ended}
use Rattle.peer_rows.proofs.Placing.{same_map}
use Rattle.peer_rows.proofs.rows.Rows.end_rows.Goals as goal

are : (c : goal.After-end_tables) → AreTables c.self.inside.peers c.end_tables.new.tables.items
are c = rw c.end_tables.ensures
    (tables_ended c.args.t c.self.inside.peers c.self.inside.tables.items c.self.invariant)

pub invariant_of-self : goal.invariant_of-self
invariant_of-self c = are c

pub returns-clause-ordered : goal.returns-clause-ordered
returns-clause-ordered c = (are c).ordered

pub returns-clause-after : goal.returns-clause-after
returns-clause-after c =
    rw (← c.self.view_is, c.end_tables.ensures)
    (same_map c.self.inside.peers _ _ _ _
    (length-map c.self.inside.tables.items (ended c.args.t))
    (placed_ended c.args.t c.self.inside.tables.items))
