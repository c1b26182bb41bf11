use Rattle.tetri_dictionary.proofs.FirstRows.{IsWrittenUpTo}
use Rattle.tetri_dictionary.proofs.first_rows.short_slack.Given as goal

abbrev pub invariant-loop-k : goal.invariant-loop-k
invariant-loop-k l = IsWrittenUpTo l.row.terms.items l.p.costs.items l.constant l.k l.numbers.items
