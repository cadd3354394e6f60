use Rattle.std.proofs.Common.{◌≡◌, ◌+◌, ℕ, suc, ◌∷◌, ap, sym, ◌∙◌, arith}
use Rattle.std.specs.Prelude.{drop}
use Rattle.peer_rows.specs.Places.{Places, by_place}
use Rattle.peer_rows.proofs.Walk.{item_of, left_none, left_some, shorter}
use Rattle.peer_rows.proofs.each_key.EachKeyIterator.next.Goals as goal

pub returns-in_err-at-clause-steps : goal.returns-in_err-at-clause-steps
returns-in_err-at-clause-steps c =
    let places : Places = c.self.inside.index.now.places in
    let none = left_none places c.self.inside.from c.in_err-at.ensures.none in
    rw c.from_residual.ensures (sym c.self.view_is ∙ none, sym c.self.view_is ∙ none)

pub returns-clause-steps : goal.returns-clause-steps
returns-clause-steps c =
    let places : Places = c.self.inside.index.now.places in
    let at : ℕ = c.in_ok-at.at in
    let is = item_of places at c.in_ok-key.key.now c.in_ok-rows.rows.now
    c.in_ok-key.ensures c.in_ok-rows.ensures in
    let next : suc at ≡ at + 1 = omega arith in
    sym c.self.view_is
    ∙ left_some places c.self.inside.from at (c.in_ok-key.key.now, c.in_ok-rows.rows.now)
    c.in_ok-at.ensures.some c.in_ok-at.ensures.before is
    ∙ ap (λ n. (c.in_ok-key.key.now, c.in_ok-rows.rows.now) ∷ by_place (drop n places)) next
    ∙ ap (λ rows. (c.in_ok-key.key.now, rows) ∷ by_place (drop (at + 1) places))
    (sym c.iter.ensures.rows)

pub returns-clause-goes : goal.returns-clause-goes
returns-clause-goes c = record {
  on = λ _. (tt, tt, shorter _ _ _ (returns-clause-steps c));
  keeps = tt;
  rests = λ _. tt;
}
