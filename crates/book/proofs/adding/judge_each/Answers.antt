use Rattle.std.proofs.Common.{◌≡◌, ◌∙◌, ℕ, suc, List, length, arith, ap, subst}
use Rattle.agg_types.specs.declared.config.Filter.{Filter}
use Rattle.peer_rows.specs.Places.{Keys}
use Rattle.peer_rows.specs.declared.row.Row.{Row}
use Rattle.book.specs.Ahead.{AreAhead}
use Rattle.book.proofs.Ahead.{ahead_more, first_out, none_ahead}
use Rattle.book.proofs.adding.judge_each.Goals as goal

pub judge_one-requires-clause-table : goal.judge_one-requires-clause-table
judge_one-requires-clause-table c =
    ap (λ (f : Filter). f.table) c.loop-key.invariant.filter ∙ c.requires.table

pub judge_one-requires-clause-rows : goal.judge_one-requires-clause-rows
judge_one-requires-clause-rows c =
    (subst (λ (l : Keys). AreAhead c.args.machine.now c.args.table l c.loop-key.adding)
    c.in-Some.ensures.steps c.loop-key.invariant.ahead).rows.0

pub loop-key-preserved : goal.loop-key-preserved
loop-key-preserved c =
    let ahead = subst (λ (l : Keys). AreAhead c.args.machine.now c.args.table l c.loop-key.adding)
    c.in-Some.ensures.steps c.loop-key.invariant.ahead in
    let e : List ℕ × List (ℕ × Row) = (c.in-Some.key.now, c.in-Some.rows) in
    let more : length c.loop-key.key-iterator ≡ suc (length c.next.new.self) =
    ap length c.in-Some.ensures.steps in
    record {
      ahead = ahead_more c.adding_goes_on.ensures c.args.machine.now c.args.table e
          c.next.new.self c.loop-key.adding c.judge_one.new.adding
          (ap (λ (f : Filter). f.table) c.loop-key.invariant.filter ∙ c.requires.table) ahead
          (c.in_ok-judge_one.ensures.touched (first_out c.args.machine.now c.args.table e
          c.next.new.self c.loop-key.adding ahead));
      filter = c.judge_one.ensures.filter ∙ c.loop-key.invariant.filter;
      few = omega (arith, more, c.judge_one.ensures.few, c.loop-key.invariant.few);
    }

pub returns-in_err-judge_one-clause-few : goal.returns-in_err-judge_one-clause-few
returns-in_err-judge_one-clause-few c =
    let more : length c.loop-key.key-iterator ≡ suc (length c.next.new.self) =
    ap length c.in-Some.ensures.steps in
    omega (arith, more, c.judge_one.ensures.few, c.loop-key.invariant.few)

pub returns-clause-judged : goal.returns-clause-judged
returns-clause-judged c = none_ahead c.args.machine.now c.args.table c.loop-key.adding
    (subst (λ (l : Keys). AreAhead c.args.machine.now c.args.table l c.loop-key.adding)
    c.in-None.ensures.steps.0 c.loop-key.invariant.ahead)
