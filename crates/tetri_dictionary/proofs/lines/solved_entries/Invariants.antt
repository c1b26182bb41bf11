use Rattle.std.proofs.Common.{map}
use Rattle.tetri_num.specs.Frac.{value}
use Rattle.tetri_dictionary.specs.declared.lines.Entry.{Entry}
use Rattle.tetri_dictionary.proofs.SparsePivots.{solved_at}
use Rattle.tetri_dictionary.proofs.SparseWalks.{IsWalked}
use Rattle.tetri_dictionary.proofs.lines.solved_entries.Given as goal

abbrev pub invariant-loop-k : goal.invariant-loop-k
invariant-loop-k l = IsWalked (solved_at l.columns l.i l.j (value l.pivot) l.entries) l.columns (map (λ (e : Entry). e.place) l.entries) l.k l.solved.items
