use Rattle.tetri_dictionary.proofs.SparseStart.{cost_is}
use Rattle.tetri_dictionary.proofs.SparseWalks.{Formed}
use Rattle.tetri_dictionary.proofs.start_lines.objective_entries.Given as goal

abbrev pub invariant-loop-j : goal.invariant-loop-j
invariant-loop-j l = Formed (cost_is l.p.costs.items) l.j l.entries.items
