use Rattle.std.proofs.Common.{◌∙◌, sym}
use Rattle.std.specs.Option.{option_copied}
use Rattle.std.proofs.lemmas.Result.{on_ok_weaker}
use Rattle.book_rows.specs.First.{is_sought}
use Rattle.book_rows.proofs.Firsts.{seeks_out, seeks_taken}
use Rattle.book_rows.proofs.first.First.offer.Goals as goal

pub returns-then-leaves-clause-holds : goal.returns-then-leaves-clause-holds
returns-then-leaves-clause-holds c =
    seeks_out (is_sought c.args.cols.now c.args.t c.args.sought) c.args.self.now.most
    c.args.self.now.keys.items (option_copied c.args.self.now.last) (c.args.key.now, c.args.rows)
    (sym c.leaves.ensures ∙ c.if-leaves.true)

pub returns-then-takes-clause-holds : goal.returns-then-takes-clause-holds
returns-then-takes-clause-holds c =
    on_ok_weaker c.take.result
    (seeks_taken (is_sought c.args.cols.now c.args.t c.args.sought) c.args.self.now.most
    c.args.self.now.keys.items (option_copied c.args.self.now.last) (c.args.key.now, c.args.rows)
    c.take.new.self.keys.items (option_copied c.take.new.self.last)
    (sym c.takes.ensures ∙ c.if-takes.true)) c.take.ensures.holds
