use Rattle.std.proofs.Common.{Some, sym, subst}
use Rattle.place_index.specs.Places.{laid}
use Rattle.peer_rows.specs.Ends.{IsLeast, rows_at}
use Rattle.peer_rows.proofs.InTime.{PeerRows, else_stays, planned_all, rows_laid, rows_laid_else}
use Rattle.peer_rows.proofs.index.Index.insert.Goals as goal

pub invariant_of-self-2 : goal.invariant_of-self-2
invariant_of-self-2 c =
    let new = laid c.self.inside.keys.places c.in_ok-at.at (Some (c.args.key, c.args.rows)) in
    rw c.in_ok-at.ensures.ok
    (planned_all new c.in_ok-at.at c.self.inside.ends c.note.new.self
    (else_stays c.self.inside.keys.places new c.in_ok-at.at c.self.inside.ends
    (λ p other. rows_laid_else c.self.inside.keys.places c.in_ok-at.at c.args.key c.args.rows p
    c.in_ok-at.ensures.bound other) c.self.invariant)
    c.note.ensures.missed c.note.ensures.others
    (c.note.ensures.own (rows_at new c.in_ok-at.at)
    (subst (λ (rows : PeerRows). IsLeast rows c.least_end-least.result)
    (sym (rows_laid c.self.inside.keys.places c.in_ok-at.at c.args.key c.args.rows
    c.in_ok-at.ensures.bound)) c.least_end-least.ensures.least)))
