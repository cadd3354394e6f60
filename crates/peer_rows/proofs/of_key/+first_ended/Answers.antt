use Rattle.std.proofs.Common.{◌∷◌, sym, subst, IfSome, Some, None, Option, ℕ}
use Rattle.peer_rows.specs.Ends.{HasEnded}
use Rattle.peer_rows.specs.Pages.{AreByPeer}
use Rattle.peer_rows.specs.declared.row.Row.{Row}
use Rattle.peer_rows.proofs.InTime.{PeerRows, ended_more}
use Rattle.place_index.proofs.Sorted.{sorted_others}
use Rattle.std.specs.Ordering.{nat_cmp}
use Rattle.peer_rows.proofs.of_key.+first_ended.Goals as goal

if_more : (t : ℕ) (r : ℕ × Row) (rows : PeerRows) (o : Option ℕ) → AreByPeer (r ∷ rows)
    → IfSome o (HasEnded t rows) → IfSome o (HasEnded t (r ∷ rows))
if_more t r rows None sorted h = tt
if_more t r rows (Some peer) sorted h = ended_more t r rows peer sorted h

pub returns-then-is_live-clause-some : goal.returns-then-is_live-clause-some
returns-then-is_live-clause-some t c = λ sorted.
    let first : ℕ × Row = (c.in-Some.peer, c.in-Some.row.now) in
    let order : AreByPeer (first ∷ c.next.new.self) = rw c.in-Some.ensures.steps at sorted in
    subst (λ (rows : PeerRows). IfSome c.first_ended.result (HasEnded c.args.t rows))
    (sym c.in-Some.ensures.steps)
    (if_more c.args.t first c.next.new.self c.first_ended.result order
    (c.first_ended.ensures.some (sorted_others nat_cmp first.0 c.next.new.self order)))
