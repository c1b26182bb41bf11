use Rattle.std.proofs.Common.{◌≤◌, ◌<◌, arith, length}
use Rattle.std.proofs.lemmas.Int.{to_z-of_z}
use Rattle.tetri_dictionary.specs.Fractions.{values}
use Rattle.tetri_cuts.proofs.PassLemmas.{next_of_first, stops_full, stops_long, stops_whole}
use Rattle.tetri_cuts.proofs.TightLemmas.{not_by}
use Rattle.tetri_cuts.proofs.tightening.next_cut.Goals as goal

pub returns-then-is_whole : goal.returns-then-is_whole
returns-then-is_whole c =
    stops_whole c.args.p.now c.args.made (values c.args.point.now) c.args.q c.args.weights.now c.requires.run (c.is_whole.ensures.0 c.if-is_whole.true)

pub returns-then-made-ge-MOST_CUTS : goal.returns-then-made-ge-MOST_CUTS
returns-then-made-ge-MOST_CUTS c =
    stops_full c.args.p.now c.args.made (values c.args.point.now) c.args.q c.args.weights.now c.requires.run c.if-made-ge-MOST_CUTS.true

pub returns-then-len-ge-MOST_ROWS : goal.returns-then-len-ge-MOST_ROWS
returns-then-len-ge-MOST_ROWS c =
    let l : 2000 ≤ length c.args.p.now.rows.items = omega arith in
    stops_long c.args.p.now c.args.made (values c.args.point.now) c.args.q c.args.weights.now c.requires.run l

pub returns : goal.returns
returns c =
    let l : length c.args.p.now.rows.items < 2000 = omega arith in
    next_of_first c.args.p.now c.args.made (values c.args.point.now) c.args.q _ c.args.weights.now (to_z-of_z _ _ c.ranges.q) c.requires.run (not_by c.is_whole.result _ c.is_whole.ensures c.if-is_whole.false) c.if-made-ge-MOST_CUTS.false l c.first_cut.result c.first_cut.ensures
