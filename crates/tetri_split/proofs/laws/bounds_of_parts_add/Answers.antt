use Rattle.tetri_space.specs.Space.{space}
use Rattle.tetri_split.proofs.PartLemmas.{bounds_add}
use Rattle.tetri_split.proofs.laws.bounds_of_parts_add.Goals as goal

pub returns : goal.returns
returns c = bounds_add (space c.args.inst.now) c.args.parts.now c.requires.parts
