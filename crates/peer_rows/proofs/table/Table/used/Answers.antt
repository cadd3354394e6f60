use Rattle.std.proofs.lemmas.List.{length-map}
use Rattle.peer_rows.proofs.Using.{dedup-rows_in}
use Rattle.peer_rows.proofs.table.Table.used.Goals as goal

pub returns : goal.returns
returns c =
    rw (
      ← c.self.view_is,
      dedup-rows_in c.self.inside.keys c.self.invariant.ordered
          c.self.invariant.once,
    ) (simp length-map c.len.ensures.value)
