use Rattle.std.proofs.Common.{arith, ◌∙◌}
use Rattle.tetri_num.proofs.Binary.{odd_min, odd_step_at, same_end}
use Rattle.tetri_num.proofs.divisors.gcd_odd.Goals as goal

pub loop-x-preserved : goal.loop-x-preserved
loop-x-preserved c = record {
  left = c.odd_part-x.ensures.odd;
  right = odd_min c.loop-x.x c.loop-x.y _ c.loop-x.invariant.left c.loop-x.invariant.right (grind arith);
  kept = odd_step_at c.loop-x.x c.loop-x.y _ _ _ _ c.loop-x.invariant.left c.loop-x.invariant.right (grind arith) (grind arith) c.odd_part-x.ensures.part ∙ c.loop-x.invariant.kept;
}

pub returns : goal.returns
returns c = same_end c.loop-x.x c.loop-x.y _ (omega arith) c.loop-x.invariant.kept
