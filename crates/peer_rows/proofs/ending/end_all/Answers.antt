use Rattle.std.proofs.Common.{◌≡◌, ◌≤◌, ℕ, [], ap, sym, ◌∙◌, subst, arith, inl, inr}
use Rattle.std.proofs.lemmas.Bool.{cases_lt}
use Rattle.place_plans.specs.Plans.{plan_at}
use Rattle.peer_rows.specs.Ends.{AreLive, any_ends, rows_at}
use Rattle.peer_rows.proofs.InTime.{PeerRows, planned_none}
use Rattle.peer_rows.proofs.Living.{all_live, rows_past}
use Rattle.peer_rows.proofs.ending.end_all.Goals as goal

-- behind the last place there are no rows
past : (c : goal.After-loop-at) (p : ℕ) → c.loop-at.at ≤ p → rows_at c.loop-at.keys.places p ≡ []
past c p behind = c.loop-at.invariant.still p behind
    ∙ rows_past c.args.keys.now.places p (omega arith)

pub returns-clause-rows : goal.returns-clause-rows
returns-clause-rows c =
    all_live c.args.t c.args.keys.now.places c.loop-at.keys.places c.loop-at.invariant.rows
    (λ p. elim (cases_lt p c.loop-at.at) [
      | inl below ↦ (c.loop-at.invariant.looked p below).live
      | inr behind ↦ subst (λ (rows : PeerRows). AreLive c.args.t rows) (sym (past c p behind)) tt
    ])

pub returns-clause-planned : goal.returns-clause-planned
returns-clause-planned c = λ p. elim (cases_lt p c.loop-at.at) [
  | inl below ↦ (c.loop-at.invariant.looked p below).planned
  | inr behind ↦
      let none = ap (λ (rows : PeerRows). any_ends rows) (past c p behind) in
      planned_none c.loop-at.ends.missed (rows_at c.loop-at.keys.places p)
      (plan_at c.loop-at.ends.plans p) none ((c.loop-at.invariant.planned p).none none)
]
