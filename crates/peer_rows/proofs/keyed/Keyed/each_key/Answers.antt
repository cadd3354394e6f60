use Rattle.peer_rows.proofs.Walk.{keys_as_they_lie}
use Rattle.peer_rows.proofs.keyed.Keyed.each_key.Goals as goal

pub returns : goal.returns
returns c = rw (← c.self.view_is, c.new.ensures)
    (keys_as_they_lie c.self.inside.index.places c.count-distinct.ensures.distinct)
