use Rattle.std.proofs.Common.{sym, ◌∙◌}
use Rattle.peer_rows.proofs.Kept.{rows_of_key, none_of_key}
use Rattle.peer_rows.proofs.table.Table.of_key.Goals as goal

pub returns-in-Some : goal.returns-in-Some
returns-in-Some c = rw (← c.self.view_is) (c.iter.ensures.rows
    ∙ sym (rows_of_key c.self.inside.keys c.args.key.now c.in-Some.rows.now c.self.invariant.ordered
    (sym c.in-Some.ensures.value)))

pub returns-in-None : goal.returns-in-None
returns-in-None c = let none =
    none_of_key c.self.inside.keys c.args.key.now (sym c.in-None.ensures.value) in
    rw (← c.self.view_is, none) c.none.ensures
