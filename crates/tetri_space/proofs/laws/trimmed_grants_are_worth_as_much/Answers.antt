use Rattle.tetri_space.specs.Space.{space}
use Rattle.tetri_space.proofs.AllotmentLemmas.{lawful_trimmed, thrifty_trimmed, total_trimmed}
use Rattle.tetri_space.proofs.laws.trimmed_grants_are_worth_as_much.Goals as goal

pub returns-clause-lawful : goal.returns-clause-lawful
returns-clause-lawful c = lawful_trimmed (space c.args.inst.now) c.requires

pub returns-clause-thrifty : goal.returns-clause-thrifty
returns-clause-thrifty c = thrifty_trimmed (space c.args.inst.now) c.requires

pub returns-clause-worth : goal.returns-clause-worth
returns-clause-worth c = total_trimmed (space c.args.inst.now) c.requires
