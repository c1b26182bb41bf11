use Rattle.tetri_space.specs.Space.{space}
use Rattle.tetri_split.proofs.PartLemmas.{totals_add}
use Rattle.tetri_split.proofs.laws.totals_of_parts_add.Goals as goal

pub returns : goal.returns
returns c = totals_add (space c.args.inst.now) c.args.parts.now c.requires.parts
