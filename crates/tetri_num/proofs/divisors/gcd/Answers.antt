use Rattle.std.proofs.Common.{◌≡◌, arith, inl, inr, ◌⊎◌}
use Rattle.std.proofs.lemmas.Int.{ints}
use lib.IntN.{pos}
use mir.Val.{to_z}
use mir.Syntax.{w128}
use Rattle.tetri_num.proofs.Signed.{signed}
use Rattle.tetri_num.proofs.Greatest.{IsGcd-common, one_is_common}
use Rattle.tetri_num.proofs.divisors.gcd.Goals as goal
use Rattle.tetri_num.proofs.divisors.gcd.Goals.{then-a-eq1-via-then-a-eq1, then-a-eq1-via-else-a-eq1+then-b-eq1}

pub returns-clause-greatest : goal.returns-clause-greatest
returns-clause-greatest c = IsGcd-common c.args.a c.args.b (to_z w128 c.gcd_unsigned.result) (grind (arith, signed))

pub returns-then-a-eq1-clause-value : goal.returns-then-a-eq1-clause-value
returns-then-a-eq1-clause-value c =
    let one : (c.args.a ≡ pos 1) ⊎ (c.args.b ≡ pos 1) = elim c.then-a-eq1.branch [ then-a-eq1-via-then-a-eq1 w ↦ inl (omega (arith, ints)) | then-a-eq1-via-else-a-eq1+then-b-eq1 w ↦ inr (omega (arith, ints)) ] in
    one_is_common c.args.a c.args.b one

pub returns-then-a-eq1-clause-greatest : goal.returns-then-a-eq1-clause-greatest
returns-then-a-eq1-clause-greatest c = IsGcd-common c.args.a c.args.b (pos 1) (returns-then-a-eq1-clause-value c)
