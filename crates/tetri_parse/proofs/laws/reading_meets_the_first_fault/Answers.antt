use Rattle.tetri_parse.proofs.FirstMet.{whole_met}
use Rattle.tetri_parse.proofs.laws.reading_meets_the_first_fault.Goals as goal

pub returns : goal.returns
returns c = whole_met c.args.cluster.now c.args.unit c.args.arrival c.args.text.now c.args.sets.now
