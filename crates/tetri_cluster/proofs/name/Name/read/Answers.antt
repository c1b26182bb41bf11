use Rattle.tetri_cluster.proofs.Ascii.{not_text_no_name}
use Rattle.tetri_cluster.proofs.name.Name.read.Goals as goal

pub returns-in_default-clause-not_name : goal.returns-in_default-clause-not_name
returns-in_default-clause-not_name c = λ e. not_text_no_name c.args.bytes.now (c.in_default.ensures.cases.0)
