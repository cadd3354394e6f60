use Rattle.std.proofs.Common.{◌+◌, ◌*◌, ◌/◌, ◌%◌, arith}
use Rattle.expiry_wheel.specs.Marks.{AreUnmarked}
use Rattle.expiry_wheel.proofs.Marked.{found_in_word, none_in_word, unmarked_on, first_further}
use Rattle.expiry_wheel.proofs.Steps.{if_none, if_some}
use Rattle.expiry_wheel.proofs.marks.Marks.first_from.Goals as goal

pub returns-in-Some-clause-some : goal.returns-in-Some-clause-some
returns-in-Some-clause-some c =
    let from = c.args.from in
    found_in_word c.args.self.now.words (from / 64) (from % 64) from c.bits_from.result
    (omega arith) c.bits_from.ensures.below c.bits_from.ensures.from (omega arith) c.in-Some.bit
    c.in-Some.ensures.within c.in-Some.ensures.here c.in-Some.ensures.before

pub returns-in-None-clause-none : goal.returns-in-None-clause-none
returns-in-None-clause-none c =
    let words = c.args.self.now.words in
    let from = c.args.from in
    let here : AreUnmarked words from (64 * (from / 64 + 1)) =
    none_in_word words (from / 64) (from % 64) from c.bits_from.result (omega arith)
    c.bits_from.ensures.below c.bits_from.ensures.from c.in-None.ensures.none in
    if_none c.first_from_word.result c.first_from_word.ensures.none
    (unmarked_on words from (64 * (from / 64 + 1)) here 2048)

pub returns-in-None-clause-some : goal.returns-in-None-clause-some
returns-in-None-clause-some c =
    let words = c.args.self.now.words in
    let from = c.args.from in
    let here : AreUnmarked words from (64 * (from / 64 + 1)) =
    none_in_word words (from / 64) (from % 64) from c.bits_from.result (omega arith)
    c.bits_from.ensures.below c.bits_from.ensures.from c.in-None.ensures.none in
    if_some c.first_from_word.result c.first_from_word.ensures.some
    (first_further words from (64 * (from / 64 + 1)) here (omega arith))
