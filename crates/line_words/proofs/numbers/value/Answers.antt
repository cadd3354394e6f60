use Rattle.std.proofs.Common.{arith}
use Rattle.line_words.proofs.Digits.{digits_step, digits_value-short}
use Rattle.line_words.proofs.numbers.value.Goals as goal

pub overflow_mul-value : goal.overflow_mul-value
overflow_mul-value c =
    let short = digits_value-short c.args.word.now c.loop-byte.byte-index (omega arith)
    c.loop-byte.invariant.digits in
    omega (arith, short)

pub overflow_add-value : goal.overflow_add-value
overflow_add-value c =
    let short = digits_value-short c.args.word.now c.loop-byte.byte-index (omega arith)
    c.loop-byte.invariant.digits in
    omega (arith, short, c.from.ensures, c.type_inv.word c.loop-byte.byte-index)

pub loop-byte-preserved : goal.loop-byte-preserved
loop-byte-preserved c =
    let step = digits_step c.args.word.now c.loop-byte.byte-index c.requires.digits
    c.loop-byte-test.true c.loop-byte.invariant.digits in
    record {
      told = omega (arith, step.1, c.from.ensures, c.loop-byte.invariant.told);
      digits =
          step.0;
    }
