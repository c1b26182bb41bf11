use Rattle.tetri_parse.proofs.FirstPass.{fault_within, fault_stays}
use Rattle.tetri_parse.proofs.laws.grammar_fault_stays.Goals as goal

pub returns : goal.returns
returns c = record {
  within = fault_within c.args.cluster.now c.args.text.now;
  stays = fault_stays c.args.cluster.now c.args.text.now;
}
