use Rattle.std.proofs.Common.{◌+◌, ◌*◌, refl, arith}
use Rattle.std.specs.Prelude.{slice_index}
use Rattle.expiry_wheel.specs.Marks.{IsFirstMarked, AreUnmarked}
use Rattle.expiry_wheel.proofs.Marked.{found_in_word, none_in_word, unmarked_on, first_further}
use Rattle.expiry_wheel.proofs.marks.Marks.first_from_word.Goals as goal

pub returns-in-Some-clause-some : goal.returns-in-Some-clause-some
returns-in-Some-clause-some c =
    let words = c.args.self.now.words in
    let at = c.loop-word.word in
    let found : IsFirstMarked words (64 * at) (64 * at + c.in-Some.bit) =
    found_in_word words at 0 (64 * at) (slice_index words at) (omega arith)
    (λ bit h. absurd (omega arith)) (λ bit h k. refl) (omega arith) c.in-Some.bit
    c.in-Some.ensures.within c.in-Some.ensures.here c.in-Some.ensures.before in
    first_further words (64 * c.args.from) (64 * at) c.loop-word.invariant (omega arith)
    (64 * at + c.in-Some.bit) found

pub loop-word-preserved : goal.loop-word-preserved
loop-word-preserved c =
    let words = c.args.self.now.words in
    let at = c.loop-word.word in
    let here : AreUnmarked words (64 * at) (64 * (at + 1)) =
    none_in_word words at 0 (64 * at) (slice_index words at) (omega arith)
    (λ bit h. absurd (omega arith)) (λ bit h k. refl) c.in_default.ensures.none in
    unmarked_on words (64 * c.args.from) (64 * at) c.loop-word.invariant (64 * (at + 1)) here
