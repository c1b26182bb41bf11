use Rattle.tetri_space.specs.Space.{space}
use Rattle.tetri_space.proofs.AllotmentLemmas.{lawful_in_order, thrifty_in_order, total_in_order}
use Rattle.tetri_space.proofs.laws.ordered_grants_are_worth_as_much.Goals as goal

pub returns-clause-lawful : goal.returns-clause-lawful
returns-clause-lawful c = lawful_in_order (space c.args.inst.now)

pub returns-clause-thrifty : goal.returns-clause-thrifty
returns-clause-thrifty c = thrifty_in_order (space c.args.inst.now)

pub returns-clause-worth : goal.returns-clause-worth
returns-clause-worth c = total_in_order (space c.args.inst.now)
