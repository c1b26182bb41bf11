use Rattle.std.proofs.Common.{◌≡◌, ◌++◌, drop, map}
use Rattle.tetri_base.specs.OptionSteps.{◌>>=◌}
use Rattle.std.specs.Prelude.{Some}
use Rattle.tetri_logs.specs.Tasks.{runs_of}
use Rattle.tetri_logs.proofs.tasks.runs_of.Given as goal

abbrev pub invariant-loop-part : goal.invariant-loop-part
invariant-loop-part l = runs_of (map (λ w. w.now) l.parts) ≡ runs_of (map (λ w. w.now) (drop l.part-index l.parts)) >>= λ runs. Some (l.runs.items ++ runs)
