use Rattle.std.proofs.Common.{◌≡◌}
use Rattle.tetri_lint.proofs.jobs.add_leaves.Given as goal

abbrev pub invariant-loop-leaf : goal.invariant-loop-leaf
invariant-loop-leaf l = l.linted.refusal ≡ l.fn.linted.refusal
