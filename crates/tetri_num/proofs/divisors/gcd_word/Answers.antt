use Rattle.std.proofs.Common.{arith}
use Rattle.std.specs.Int.{trailing_zeros}
use mir.Syntax.{w64}
use Rattle.tetri_num.proofs.Binary.{zero_left, zero_right, word_end}
use Rattle.tetri_num.proofs.divisors.gcd_word.Goals as goal

pub returns-then-a-eq0 : goal.returns-then-a-eq0
returns-then-a-eq0 c = zero_left c.args.a c.args.b (omega arith)

pub returns-then-b-eq0 : goal.returns-then-b-eq0
returns-then-b-eq0 c = zero_right c.args.a c.args.b (omega arith)

pub returns : goal.returns
returns c =
    word_end c.args.a c.args.b c.odd_part.result c.odd_part-2.result (trailing_zeros w64 c.args.a) (trailing_zeros w64 c.args.b) c.gcd_odd.result c.min-twos.result
    (omega arith) (omega arith) c.odd_part.ensures.odd c.odd_part-2.ensures.odd c.odd_part.ensures.part c.odd_part-2.ensures.part c.gcd_odd.ensures (grind arith)
