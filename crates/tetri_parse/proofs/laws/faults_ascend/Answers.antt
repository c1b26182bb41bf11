use Rattle.tetri_parse.proofs.FaultOrder.{faults_ascend}
use Rattle.tetri_parse.proofs.laws.faults_ascend.Goals as goal

pub returns : goal.returns
returns c = faults_ascend c.args.text.now c.args.unit c.args.cluster.now c.args.sets.now
