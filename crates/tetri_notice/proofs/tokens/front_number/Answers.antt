use Rattle.std.proofs.Common.{◌≡◌, ◌<◌, ◌+◌, ◌-◌, ◌*◌, get_or, length, refl, sym, arith, true}
use Rattle.std.specs.Char.{is_ascii_digit}
use Rattle.std.proofs.lemmas.List.Sums.{prefix_len-drop_yes}
use Rattle.tetri_io.proofs.TextLaws.{digit_below, next_front}
use Rattle.tetri_notice.proofs.FrontLemmas.{below_front}
use Rattle.tetri_notice.proofs.tokens.front_number.Goals as goal

pub overflow_mul-number : goal.overflow_mul-number
overflow_mul-number c =
    let small = below_front c.args.text.now c.loop-i.i c.loop-i.number c.loop-i.invariant.digits c.loop-i.invariant.value (omega (arith, c.loop-i-test.true, c.loop-i.invariant.most)) in omega (arith, small)

pub overflow_add-number : goal.overflow_add-number
overflow_add-number c =
    let small = below_front c.args.text.now c.loop-i.i c.loop-i.number c.loop-i.invariant.digits c.loop-i.invariant.value (omega (arith, c.loop-i-test.true, c.loop-i.invariant.most)) in
    omega (arith, small, digit_below (get_or c.args.text.now c.loop-i.i 0) (sym c.if-is_ascii_digit.ensures.value), c.from.ensures)

pub loop-i-preserved : goal.loop-i-preserved
loop-i-preserved c =
    let text = c.args.text.now in
    let i = c.loop-i.i in
    let inside : i < length text = omega (arith, c.loop-i-test.true, c.loop-i.invariant.most) in
    let digit : is_ascii_digit (get_or text i 0) ≡ true = sym c.if-is_ascii_digit.ensures.value in
    let next = next_front text i c.loop-i.number (get_or text i 0 - 48) (c.loop-i.number * 10 + c.from.result) inside c.loop-i.invariant.digits c.loop-i.invariant.value (digit, refl) (omega (arith, c.from.ensures)) in record {
      inside = omega (arith, c.loop-i-test.true);
      most = c.loop-i.invariant.most;
      digits = next.0;
      value = next.1;
      count = omega (arith, c.loop-i.invariant.count, prefix_len-drop_yes is_ascii_digit text i 0 inside digit);
    }
