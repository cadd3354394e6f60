use Rattle.std.proofs.Common.{◌≤◌, ◌∙◌, length, sym, arith}
use Rattle.std.proofs.lemmas.Result.{on_ok_weaker}
use Rattle.fleet_model.specs.Answers.{keys_of}
use Rattle.book.specs.Reads.{pairs_from}
use Rattle.book.specs.Verdicts.{with_filter}
use Rattle.book.proofs.Prepared.{none_added, one_added, pairs_added}
use Rattle.book.proofs.verdicts.Verdicts.add.Goals as goal

pub returns-then-not-takes-clause-held : goal.returns-then-not-takes-clause-held
returns-then-not-takes-clause-held c = λ held.
    none_added c.args.machine.now c.args.filter.now c.args.self.now.standing.filters
    (sym c.takes.ensures ∙ c.if-not-takes.true) held

pub returns-clause-held : goal.returns-clause-held
returns-clause-held c = on_ok_weaker c.add_one.result (λ more held.
    one_added c.args.machine.now c.args.filter.now c.args.self.now.standing.filters
    c.add_one.new.standing.filters (sym c.takes.ensures ∙ c.if-not-takes.false) more held)
    c.add_one.ensures.added

pub returns-clause-few : goal.returns-clause-few
returns-clause-few c =
    let pairs : length (keys_of c.args.machine.now c.args.filter.now.table)
    ≤ pairs_from (with_filter c.args.machine.now c.args.filter.now)
    (length c.args.machine.now.config.filters) =
    pairs_added c.args.machine.now c.args.filter.now (sym c.takes.ensures ∙ c.if-not-takes.false) in
    on_ok_weaker c.add_one.result
    (λ more. omega (arith, pairs, c.add_one.ensures.few, c.requires.fresh)) c.add_one.ensures.added
