use Rattle.tetri_space.specs.Space.{space}
use Rattle.tetri_space.proofs.LawLemmas.{total_le_tops}
use Rattle.tetri_space.proofs.laws.tops_bound_every_lawful_total.Goals as goal

pub returns : goal.returns
returns c = λ a lawful. total_le_tops (space c.args.inst.now) c.requires a lawful.grants
