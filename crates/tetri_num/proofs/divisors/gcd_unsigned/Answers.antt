use Rattle.std.proofs.Common.{arith, sym, ◌∙◌}
use Rattle.std.proofs.lemmas.Nat.Gcd.{IsGcd-from_mod, IsGcd-from_zero}
use Rattle.tetri_algebra.specs.Coprime.{IsGcd-gcd_of, gcd_of_is}
use Rattle.tetri_num.proofs.Greatest.{gcd_of_bound}
use Rattle.tetri_num.proofs.divisors.gcd_unsigned.Goals as goal

pub loop-y-preserved : goal.loop-y-preserved
loop-y-preserved c = λ g h. c.loop-y.invariant g (IsGcd-from_mod _ _ g h)

pub returns-clause-greatest : goal.returns-clause-greatest
returns-clause-greatest c = sym (gcd_of_is _ _ _ (c.loop-y.invariant c.loop-y.x (IsGcd-from_zero c.loop-y.x c.loop-y.y (omega arith))))

pub returns-clause-bound : goal.returns-clause-bound
returns-clause-bound c = gcd_of_bound _ _ _ (returns-clause-greatest c)

pub returns-then-y-le-WORD-clause-greatest : goal.returns-then-y-le-WORD-clause-greatest
returns-then-y-le-WORD-clause-greatest c =
    c.gcd_word.ensures ∙ sym (gcd_of_is _ _ _ (c.loop-y.invariant _ (IsGcd-gcd_of c.loop-y.x c.loop-y.y)))

pub returns-then-y-le-WORD-clause-bound : goal.returns-then-y-le-WORD-clause-bound
returns-then-y-le-WORD-clause-bound c = gcd_of_bound _ _ _ (returns-then-y-le-WORD-clause-greatest c)
