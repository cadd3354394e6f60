use Rattle.std.proofs.Common.{get_or}
use Rattle.std.proofs.lemmas.Bool.{eqb-true}
use Rattle.peer_rows.proofs.Peers.{found_own}
use Rattle.peer_rows.proofs.page.stands_at.Goals as goal

pub returns-then-at-rows : goal.returns-then-at-rows
returns-then-at-rows c = λ own. found_own c.args.peer c.args.rows.now c.args.at
    c.index-rows-at.result c.requires c.if-at-rows.true
    (eqb-true (get_or c.args.rows.now c.args.at c.index-rows-at.result).0 c.args.peer own)
