use Rattle.tetri_ip.proofs.UnmetLemmas.{none_is_met}
use Rattle.tetri_ip.proofs.points.meets_rows.Goals as goal

pub returns : goal.returns
returns c = none_is_met c.args.p.now.rows.items c.args.point.now c.first_unmet.result c.is_none.result c.first_unmet.ensures c.is_none.ensures
