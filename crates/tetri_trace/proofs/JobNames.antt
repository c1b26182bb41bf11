-- The names of jobs, and the index that holds them.
use Rattle.std.proofs.Common.{◌≡◌, ◌∙◌, ℕ, Bool, not, List, [], ◌∷◌, map, refl, sym, ap}
use Rattle.tetri_cluster.specs.Names.{is_among}
use Rattle.tetri_trace.specs.Scenario.{job_names, submission}
use Rattle.tetri_trace.specs.declared.trace.Job.{Job}

pub job_names-submission : (js : List Job) → job_names (map submission js) ≡ map (λ (j : Job). j.name) js
job_names-submission [] = refl
job_names-submission (j ∷ js) = ap (λ names. j.name ∷ names) (job_names-submission js)

-- the index holds the names of these jobs
pub names_told : (names : List (List ℕ)) (items now : List Job) → names ≡ map (λ (j : Job). j.name) items → items ≡ now → names ≡ job_names (map submission now)
names_told names items now held same = held ∙ sym (job_names-submission items) ∙ ap (λ js. job_names (map submission js)) same

-- whether a name is new, by the index
pub is_fresh : (names now : List (List ℕ)) (name bytes : List ℕ) (new : Bool) → names ≡ now → bytes ≡ name → new ≡ not (is_among bytes names) → new ≡ not (is_among name now)
is_fresh names now name bytes new told same fresh = fresh ∙ ap (λ x. not (is_among x names)) same ∙ ap (λ l. not (is_among name l)) told
