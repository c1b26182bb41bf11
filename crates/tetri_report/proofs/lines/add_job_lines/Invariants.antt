use Rattle.std.proofs.Common.{◌≡◌, ◌++◌, take, string_bytes}
use Rattle.std.specs.Prelude.{flat_map}
use Rattle.tetri_trace.specs.Scenario.{scenario}
use Rattle.tetri_report.specs.Text.{job_line}
use Rattle.tetri_report.proofs.lines.add_job_lines.Given as goal

abbrev pub invariant-loop-job : goal.invariant-loop-job
invariant-loop-job l = string_bytes l.out ≡ string_bytes l.initial.out ++ flat_map (job_line (scenario l.trace) l.word) (take l.job-index l.jobs)
