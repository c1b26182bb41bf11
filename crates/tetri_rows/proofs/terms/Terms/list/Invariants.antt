use Rattle.tetri_rows.proofs.TermLists.{AreTermsTo}
use Rattle.tetri_rows.proofs.terms.Terms.list.Given as goal

abbrev pub invariant-loop-k : goal.invariant-loop-k
invariant-loop-k l = AreTermsTo l.k l.self.places.items l.self.numbers.items l.row
