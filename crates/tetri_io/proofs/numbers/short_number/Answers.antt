use Rattle.std.proofs.Common.{get_or, arith}
use Rattle.tetri_io.proofs.Digits.{digit_below, short_front, next_front}
use Rattle.tetri_io.proofs.numbers.short_number.Goals as goal

pub overflow_mul-number : goal.overflow_mul-number
overflow_mul-number c =
    let front = short_front c.args.bytes.now c.loop-byte.byte-index c.loop-byte.number c.loop-byte-test.true c.requires c.loop-byte.invariant.0 c.loop-byte.invariant.1 in omega arith

pub overflow_add-number : goal.overflow_add-number
overflow_add-number c =
    let front = short_front c.args.bytes.now c.loop-byte.byte-index c.loop-byte.number c.loop-byte-test.true c.requires c.loop-byte.invariant.0 c.loop-byte.invariant.1 in
    omega (arith, digit_below (get_or c.args.bytes.now c.loop-byte.byte-index 0) c.in_ok-digit.ensures.0, c.in_ok-digit.ensures.1, c.from.ensures)

pub loop-byte-preserved : goal.loop-byte-preserved
loop-byte-preserved c =
    next_front c.args.bytes.now c.loop-byte.byte-index c.loop-byte.number c.in_ok-digit.digit _ c.loop-byte-test.true c.loop-byte.invariant.0 c.loop-byte.invariant.1 c.in_ok-digit.ensures (omega (arith, c.from.ensures))
