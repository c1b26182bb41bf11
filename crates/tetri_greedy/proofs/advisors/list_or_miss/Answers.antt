use Rattle.tetri_greedy.proofs.advisors.list_or_miss.Goals as goal

pub returns-then-is_err-clause-lawful : goal.returns-then-is_err-clause-lawful
returns-then-is_err-clause-lawful c = c.greedy_lists_are_lawful.ensures c.args.creed

pub returns-else-is_err-clause-lawful : goal.returns-else-is_err-clause-lawful
returns-else-is_err-clause-lawful c = c.greedy_lists_are_lawful.ensures c.args.creed
