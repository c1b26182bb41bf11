use Rattle.std.proofs.Common.{◌∙◌, ap, length}
use Rattle.tetri_io.specs.Words.{parts_at}
use Rattle.tetri_hosts.specs.Nodes.{Told}
use Rattle.tetri_hosts.proofs.NodeLemmas.{each_fate}
use Rattle.tetri_hosts.proofs.nodes.read_nodes.Goals as goal

pub returns-clause-lines : goal.returns-clause-lines
returns-clause-lines c = ap (λ (t : Told). length t.fates) c.in_ok-nodes.ensures ∙ each_fate (parts_at 10 c.args.text.now)
