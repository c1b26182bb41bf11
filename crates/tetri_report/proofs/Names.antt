-- The names of jobs.
use Rattle.std.proofs.Common.{◌≡◌, ℕ, zero, suc, ◌<◌, List, [], ◌∷◌, map, length, get_or, refl, arith}
use Rattle.tetri_trace.specs.declared.trace.Job.{Job}
use Rattle.tetri_trace.specs.Scenario.{submission, job_names}

pub job_name-at : (js : List Job) (i : ℕ) (d : Job) → i < length js → get_or (job_names (map submission js)) i [] ≡ (get_or js i d).name
job_name-at [] i d lt = absurd (omega arith)
job_name-at (j ∷ js) zero d lt = refl
job_name-at (j ∷ js) (suc i) d lt = job_name-at js i d (omega arith)
