use Rattle.std.proofs.Common.{◌+◌, [], ◌∷◌, ◌++◌, sym, ◌∙◌}
use Rattle.agg_config.proofs.Finished.{kept_none, kept_on, none_kept, read_more, read_wrong}
use Rattle.agg_config.proofs.reader.Reader.line.Goals as goal

pub returns-then-is_some-clause-read : goal.returns-then-is_some-clause-read
returns-then-is_some-clause-read c = λ lines has.
    kept_on c.args.self.now.config c.args.self.now.named c.args.self.now.count lines
    c.args.line.now c.args.self.now.fault (sym c.is_some.ensures ∙ c.if-is_some.true) has

pub returns-in-Ok-clause-read : goal.returns-in-Ok-clause-read
returns-in-Ok-clause-read c = λ lines has.
    let none = sym c.is_some.ensures ∙ c.if-is_some.false in
    none_kept c.read_line.new.config c.read_line.new.named (c.args.self.now.count + 1)
    (lines ++ c.args.line.now ∷ []) c.args.self.now.fault none
    (read_more lines c.args.line.now c.args.self.now.config c.read_line.new.config
    c.args.self.now.named c.read_line.new.named c.args.self.now.count
    (kept_none c.args.self.now.config c.args.self.now.named c.args.self.now.count lines
    c.args.self.now.fault none has) c.in-Ok.ensures.ok)

pub returns-in-Err-clause-read : goal.returns-in-Err-clause-read
returns-in-Err-clause-read c = λ lines has.
    read_wrong lines c.args.line.now c.args.self.now.config c.args.self.now.named
    c.args.self.now.count c.in-Err.wrong
    (kept_none c.args.self.now.config c.args.self.now.named c.args.self.now.count lines
    c.args.self.now.fault (sym c.is_some.ensures ∙ c.if-is_some.false) has)
    c.in-Err.ensures.err c.in-Err.ensures.spare
