use Rattle.std.proofs.Common.{All}
use Rattle.tetri_dictionary.specs.Fractions.{values}
use Rattle.tetri_simplex.specs.Relaxation.{IsWhole}
use Rattle.tetri_cuts.proofs.TightLemmas.{is_not_whole, so, whole_all, whole_more}
use Rattle.tetri_cuts.proofs.tightening.is_whole.Goals as goal

pub loop-i-preserved : goal.loop-i-preserved
loop-i-preserved c = whole_more c.args.point.now c.loop-i.i c.index-point-i.result c.loop-i-test.true c.index-point-i.is c.if-point-i-ne1.false c.loop-i.invariant

pub returns-then-point-i-ne1 : goal.returns-then-point-i-ne1
returns-then-point-i-ne1 c = is_not_whole c.args.point.now c.loop-i.i c.index-point-i.result c.loop-i-test.true c.index-point-i.is c.if-point-i-ne1.true

pub returns : goal.returns
returns c = so (All IsWhole (values c.args.point.now)) (whole_all c.args.point.now c.loop-i.i c.loop-i-test.false c.loop-i.invariant)
