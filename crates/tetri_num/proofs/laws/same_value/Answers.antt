use Rattle.tetri_num.proofs.Fracs.{same_value}
use Rattle.tetri_num.proofs.laws.same_value.Goals as goal

pub returns : goal.returns
returns c = same_value c.args.x c.args.y
