use Rattle.tetri_cert.proofs.FaultLemmas.{faults_name_nodes}
use Rattle.tetri_cert.proofs.laws.faults_name_nodes.Goals as goal

pub returns : goal.returns
returns c = faults_name_nodes
