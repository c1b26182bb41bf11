use Rattle.tetri_cert.proofs.HalvesBack.{first_part, one_part}
use Rattle.tetri_cert.proofs.lists.next_part.Goals as goal

pub returns-in-Some-clause-parts : goal.returns-in-Some-clause-parts
returns-in-Some-clause-parts c = first_part 44 c.args.rest.now c.in-Some.part.now c.in-Some.behind.now c.in-Some.ensures

pub returns-in-None-clause-parts : goal.returns-in-None-clause-parts
returns-in-None-clause-parts c = one_part 44 c.args.rest.now c.in-None.ensures
