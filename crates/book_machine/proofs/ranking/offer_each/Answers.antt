use Rattle.std.proofs.Common.{◌∙◌, ℕ, List, ap, sym, take}
use Rattle.peer_rows.specs.Places.{Keys}
use Rattle.peer_rows.specs.declared.row.Row.{Row}
use Rattle.ranked.specs.Best.{BestKeys, with_offered}
use Rattle.book_machine.specs.Ranks.{best_after}
use Rattle.book_machine.proofs.Ranks.{offered_all, offered_more}
use Rattle.book_machine.proofs.ranking.offer_each.Goals as goal

pub loop-key-preserved : goal.loop-key-preserved
loop-key-preserved c =
    let best : BestKeys = c.loop-key.best in
    let e : List ℕ × List (ℕ × Row) = (c.in-Some.key.now, c.in-Some.rows) in
    record {
      keys = ap (λ (b : BestKeys). best_after b c.args.cols.now c.args.col c.args.t c.next.new.self)
          (c.offer.ensures ∙ ap (λ (n : ℕ). with_offered (c.in-Some.key.now, n) best)
          c.worth.ensures.exact)
          ∙ offered_more best c.args.cols.now c.args.col c.args.t e c.next.new.self
          ∙ ap (λ (l : Keys). best_after best c.args.cols.now c.args.col c.args.t l)
          (sym c.in-Some.ensures.steps)
          ∙ c.loop-key.invariant.keys;
      room = ap (λ (b : BestKeys). b.room) c.offer.ensures ∙ c.loop-key.invariant.room;
    }

pub returns-clause-keys : goal.returns-clause-keys
returns-clause-keys c =
    let best : BestKeys = c.loop-key.best in
    ap (λ (n : ℕ). take n best.keys) (sym c.loop-key.invariant.room)
    ∙ sym (offered_all best c.args.cols.now c.args.col c.args.t)
    ∙ ap (λ (l : Keys). best_after best c.args.cols.now c.args.col c.args.t l)
    (sym c.in-None.ensures.steps.0)
    ∙ c.loop-key.invariant.keys
