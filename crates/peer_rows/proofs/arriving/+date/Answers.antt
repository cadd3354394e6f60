use Rattle.std.proofs.Common.{◌+◌, ◌-◌, ◌≤◌, ◌∙◌, arith}
use Rattle.peer_rows.proofs.Dating.{dated-count, dated-rate, rate-long}
use Rattle.peer_rows.proofs.arriving.+date.Goals as goal

pub returns-then-kinds-eq0-clause-cells : goal.returns-then-kinds-eq0-clause-cells
returns-then-kinds-eq0-clause-cells t c =
    dated-count c.args.len c.args.kinds c.args.end c.args.t c.args.cols.now c.args.words.now
    c.date.new.words (omega arith) c.if-kinds-eq0.true c.requires.kinds c.requires.end
    c.requires.columns c.date.ensures.cells c.date.ensures.behind

pub returns-else-kinds-eq0-clause-cells : goal.returns-else-kinds-eq0-clause-cells
returns-else-kinds-eq0-clause-cells t c =
    dated-rate c.args.len c.args.kinds c.args.end c.args.t c.args.cols.now c.args.words.now
    c.date_rate.new.words c.date-else-kinds-eq0.new.words _ (omega arith) c.if-kinds-eq0.false
    c.requires.kinds c.requires.end c.requires.columns c.date_rate.ensures.cell
    c.date_rate.ensures.before c.date-else-kinds-eq0.ensures.cells
    c.date-else-kinds-eq0.ensures.behind

pub returns-else-kinds-eq0-clause-behind : goal.returns-else-kinds-eq0-clause-behind
returns-else-kinds-eq0-clause-behind t c = λ k from.
    let own : c.args.end - 3 ≤ k = omega (arith, from) in
    let long = rate-long c.args.len c.args.kinds c.args.end (omega arith) c.if-kinds-eq0.false
    c.requires.kinds c.requires.end in
    let past : c.args.end - 3 + 3 ≤ k = omega (arith, from, long) in
    c.date-else-kinds-eq0.ensures.behind k own ∙ c.date_rate.ensures.behind k past
