use Rattle.tetri_num.proofs.Values.{num-value, den-value}
use Rattle.tetri_num.proofs.laws.value_has_parts.Goals as goal

pub returns-clause-num : goal.returns-clause-num
returns-clause-num c = num-value c.args.x

pub returns-clause-den : goal.returns-clause-den
returns-clause-den c = den-value c.args.x
