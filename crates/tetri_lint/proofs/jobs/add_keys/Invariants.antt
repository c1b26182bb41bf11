use Rattle.std.proofs.Common.{◌≡◌}
use Rattle.tetri_lint.proofs.jobs.add_keys.Given as goal

abbrev pub invariant-loop-key : goal.invariant-loop-key
invariant-loop-key l = l.linted.refusal ≡ l.fn.linted.refusal
