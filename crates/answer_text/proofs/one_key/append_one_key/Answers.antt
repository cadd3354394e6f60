use Rattle.std.proofs.lemmas.Result.{on_ok_weaker}
use Rattle.answer_text.proofs.VerdictLines.{key_then}
use Rattle.answer_text.proofs.one_key.append_one_key.Goals as goal

pub returns-clause-ok : goal.returns-clause-ok
returns-clause-ok c =
    on_ok_weaker c.append_verdicts.result
    (key_then c.args.book.now c.args.table c.args.key.now c.filters_of.result.now
    c.args.out.now.items c.append_holders.new.out.items c.append_verdicts.new.out.items
    c.filters_of.ensures.value c.in_ok-append_holders.ensures.ok) c.append_verdicts.ensures.ok
