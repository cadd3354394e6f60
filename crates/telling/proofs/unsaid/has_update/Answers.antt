use Rattle.std.proofs.Common.{◌≤◌, ◌<◌, arith, length}
use Rattle.std.proofs.lemmas.Bool.Decides.{nat_tests}
use Rattle.telling.proofs.Steps.{no_update, not_there, some_update}
use Rattle.telling.proofs.unsaid.has_update.Goals as goal

pub returns-in-None-clause-none : goal.returns-in-None-clause-none
returns-in-None-clause-none c = λ no d.
    no_update d c.args.place c.args.tables.now c.args.pushed.now c.in-None.ensures

pub returns-in-Some-clause-none : goal.returns-in-Some-clause-none
returns-in-Some-clause-none c = λ no d.
    let out : length c.args.pushed.now ≤ c.in-Some.found.place = grind (arith, nat_tests, no) in
    not_there d c.args.place c.args.tables.now c.args.pushed.now c.in-Some.found
    c.in-Some.ensures out

pub returns-in-Some-clause-some : goal.returns-in-Some-clause-some
returns-in-Some-clause-some c = λ yes d.
    let within : c.in-Some.found.place < length c.args.pushed.now =
    grind (arith, nat_tests, yes) in
    some_update d c.args.place c.args.tables.now c.args.pushed.now c.in-Some.found
    c.in-Some.ensures within
