use Rattle.std.proofs.Common.{rules}
use Rattle.std.proofs.lemmas.List.Sorted.{answers_always}
use Rattle.peer_rows.proofs.Peers.{searched}
use Rattle.peer_rows.proofs.page.find.Goals as goal

-- the closure gives the peer of a row
pub returns : goal.returns
returns c =
    let facts = c.binary_search_by_key.ensures in
    let by_peer =
    facts.position (λ held. held.0) (answers_always _ _ _ (λ f a r g called. search rules)) in
    searched c.args.peer c.args.rows.now c.requires _ facts.bound by_peer
