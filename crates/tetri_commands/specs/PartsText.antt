-- The lines of a cycle that is planned part by part.
use Rattle.std.specs.Prelude.{ℕ, List, ◌++◌, flat_map, length, codes, decimal}
use Rattle.tetri_report.specs.Text.{events_text, job_name, launches_text, plan_text}
use Rattle.tetri_split.specs.Parts.{first_job}
use Rattle.tetri_trace.specs.Scenario.{Scenario}
use Rattle.tetri_commands.specs.PartsCycle.{PartPlan, PartsCycle, bound_of, value_of}

-- how many parts there are, what their plans are worth together, and the sum of their bounds
unfoldable pub parts_line : ℕ → ℕ → ℕ → List ℕ
parts_line count value bound = codes "parts " ++ decimal count ++ codes " " ++ decimal value ++ codes " " ++ decimal bound ++ codes "\n"

-- the name of a part's least job
unfoldable pub part_line : List ℕ → List ℕ
part_line name = codes "part " ++ name ++ codes "\n"

-- a part's least job, and the lines of its plan
abbrev pub part_text : Scenario → PartPlan → List ℕ
part_text t p =
    part_line (job_name t (first_job p.jobs)) ++ plan_text t p.plan.value p.plan.bound p.plan.mark p.plan.nodes p.plan.grants p.starts p.plan.certificate

-- the lines of a cycle
abbrev pub parts_cycle_text : Scenario → PartsCycle → List ℕ
parts_cycle_text t c =
    events_text t c.number c.happened
    ++ (parts_line (length c.parts) (value_of c.parts) (bound_of c.parts) ++ (flat_map (part_text t) c.parts ++ launches_text t c.launched))
