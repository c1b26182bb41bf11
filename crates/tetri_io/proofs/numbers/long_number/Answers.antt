use Rattle.std.proofs.Common.{◌+◌, ◌*◌, ◌^◌, ◌≤◌, arith}
use Rattle.tetri_io.proofs.Digits.{next_front, past_front}
use Rattle.tetri_io.proofs.numbers.long_number.Goals as goal

pub returns-in_err-checked_mul : goal.returns-in_err-checked_mul
returns-in_err-checked_mul c =
    let large : 2 ^ 128 ≤ c.loop-byte.number * 10 + c.in_ok-digit.digit = let h = c.in_err-checked_mul.ensures in omega arith in
    rw c.from_residual-in_err-checked_mul.ensures (λ all. past_front c.args.bytes.now c.loop-byte.byte-index c.loop-byte.number c.in_ok-digit.digit (2 ^ 128) c.loop-byte-test.true c.loop-byte.invariant.1 c.in_ok-digit.ensures large)

pub returns-in_err-number : goal.returns-in_err-number
returns-in_err-number c =
    let large : 2 ^ 128 ≤ c.loop-byte.number * 10 + c.in_ok-digit.digit = let h = c.in_err-number.ensures in omega (arith, c.from.ensures, c.in_ok-checked_mul.ensures) in
    rw c.from_residual-in_err-number.ensures (λ all. past_front c.args.bytes.now c.loop-byte.byte-index c.loop-byte.number c.in_ok-digit.digit (2 ^ 128) c.loop-byte-test.true c.loop-byte.invariant.1 c.in_ok-digit.ensures large)

pub loop-byte-preserved : goal.loop-byte-preserved
loop-byte-preserved c =
    next_front c.args.bytes.now c.loop-byte.byte-index c.loop-byte.number c.in_ok-digit.digit _ c.loop-byte-test.true c.loop-byte.invariant.0 c.loop-byte.invariant.1 c.in_ok-digit.ensures (omega (arith, c.from.ensures, c.in_ok-checked_mul.ensures, c.in_ok-number.ensures))
