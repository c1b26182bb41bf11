use Rattle.std.proofs.Common.{ℕ, ◌≤◌, ◌∙◌, arith, rules}
use Rattle.std.proofs.lemmas.Int.{to_z-of_z}
use lib.IntN.{pos}
use mir.Syntax.{w64}
use mir.Val.{SFits}
use Rattle.tetri_rows.proofs.Words.{word, short_word, combined_read, greatest_next}
use Rattle.tetri_rows.proofs.rows.greatest.Goals as goal

pub loop-k-preserved : goal.loop-k-preserved
loop-k-preserved c =
    let fa : SFits w64 c.abs-size.result = search rules in
    let fm : SFits w64 c.max-most.result = search rules in
    let s = greatest_next _ _ c.args.row.now c.args.pivot.now c.loop-k.k _ c.combined.result _ c.abs-size.result _ c.max-most.result _ c.loop-k.invariant.most c.loop-k.invariant.sign
    (c.combined.ensures.value ∙ combined_read _ _ c.args.row.now c.args.pivot.now c.loop-k.k _ _ (short_word _ (c.requires.row c.loop-k.k (pos 0) c.loop-k-test.true)) (short_word _ (c.requires.pivot c.loop-k.k (pos 0) (omega (arith, c.requires.wide, c.loop-k-test.true)))))
    (word _ c.combined.ensures.fits) c.abs-size.ensures.value (to_z-of_z w64 c.abs-size.result fa) c.max-most.ensures.value (to_z-of_z w64 c.max-most.result fm) in
    record { sign = s.0; least = weaken _ _ _ c.loop-k.invariant.least s.1; most = s.2 }
  where
    weaken : (x y z : ℕ) → x ≤ y → y ≤ z → x ≤ z
    weaken x y z h k = omega arith
