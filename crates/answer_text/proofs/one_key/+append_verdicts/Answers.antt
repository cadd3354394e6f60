use Rattle.std.proofs.lemmas.Result.{on_ok_weaker}
use Rattle.answer_text.proofs.VerdictLines.{first_in}
use Rattle.answer_text.proofs.one_key.+append_verdicts.Goals as goal

pub returns-in_ok-append_verdict-in-len1-up-clause-ok :
    goal.returns-in_ok-append_verdict-in-len1-up-clause-ok
returns-in_ok-append_verdict-in-len1-up-clause-ok t c =
    on_ok_weaker c.append_verdicts-in-len1-up.result
    (first_in c.args.book.now c.args.table c.args.key.now c.args.filters.now c.filter-item.result
    c.args.out.now.items c.append_verdict.new.out.items
    c.append_verdicts-in-len1-up.new.out.items c.filter-item.is c.in-len1-up.len_at_least
    c.if-filter-table.false c.in_ok-append_verdict-in-len1-up.ensures.ok)
    c.append_verdicts-in-len1-up.ensures.ok
