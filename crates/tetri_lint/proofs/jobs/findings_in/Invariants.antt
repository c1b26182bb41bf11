use Rattle.std.proofs.Common.{◌≡◌, ◌-◌}
use Rattle.tetri_lint.proofs.jobs.findings_in.Given as goal

abbrev pub invariant-loop-line : goal.invariant-loop-line
invariant-loop-line l =
    (goal.iterator-loop-line).can_next l.line-iterator ×
    (goal.iterator-loop-line).is_finite l.line-iterator ×
    (l.linted.refusal ≡ l.fn.linted.refusal)
