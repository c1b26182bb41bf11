use Rattle.std.proofs.Common.{map, length}
use Rattle.tetri_ip.specs.declared.programs.Term.{Term}
use Rattle.tetri_dictionary.proofs.SparseStart.{slack_is}
use Rattle.tetri_dictionary.proofs.SparseWalks.{IsWalked}
use Rattle.tetri_dictionary.proofs.start_lines.slack_entries.Given as goal

abbrev pub invariant-loop-k : goal.invariant-loop-k
invariant-loop-k l = IsWalked (slack_is l.row.terms.items l.p.costs.items) (length l.p.costs.items) (map (λ (t : Term). t.column) l.row.terms.items) l.k l.entries.items
