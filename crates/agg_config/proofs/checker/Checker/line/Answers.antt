use Rattle.agg_config.proofs.Finished.{read_more}
use Rattle.agg_config.proofs.Judged.{judged_number, judged_wrong, read_blank}
use Rattle.agg_config.proofs.checker.Checker.line.Goals as goal

pub returns-in-Ok-clause-ok : goal.returns-in-Ok-clause-ok
returns-in-Ok-clause-ok c = λ lines has.
    read_more lines c.args.line.now c.args.self.now.config c.read_line.new.config
    c.args.self.now.named c.read_line.new.named c.args.self.now.count has c.in-Ok.ensures.ok

pub returns-in-Err-clause-blank : goal.returns-in-Err-clause-blank
returns-in-Err-clause-blank c = λ lines has.
    read_blank lines c.args.self.now.config c.read_line.new.config c.args.self.now.named
    c.read_line.new.named c.args.self.now.count has c.in-Err.ensures.config
    c.in-Err.ensures.named

pub returns-in-Err-clause-number : goal.returns-in-Err-clause-number
returns-in-Err-clause-number c = λ lines has.
    judged_number lines c.args.self.now.config c.args.self.now.named c.args.self.now.count has

pub returns-in-Err-clause-first : goal.returns-in-Err-clause-first
returns-in-Err-clause-first c = λ lines later has.
    judged_wrong lines c.args.line.now c.args.self.now.config c.args.self.now.named
    c.args.self.now.count c.in-Err.wrong has c.in-Err.ensures.err c.in-Err.ensures.spare later
